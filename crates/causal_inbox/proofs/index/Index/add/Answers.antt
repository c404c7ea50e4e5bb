use Rattle.std.proofs.Common.{ap, sym, ◌≡◌, ◌<◌, ◌++◌, ◌∷◌, ◌∙◌, [], subst}
use Rattle.std.specs.Prelude.{All}
use Rattle.std.specs.List.{remove}
use Rattle.causal_inbox.specs.Index.{IsAgeIndex}
use Rattle.causal_inbox.specs.Key.{keys_of}
use Rattle.causal_inbox.specs.Lists.{ages_under}
use Rattle.causal_inbox.proofs.IndexLemmas.{front_rises, index_added, index_undone, put_back}
use Rattle.causal_inbox.proofs.KeyLemmas.{keys_are}
use Rattle.causal_inbox.proofs.index.Index.add.Goals as goal

pub returns-clause-ok : goal.returns-clause-ok
returns-clause-ok c = λ ops index.
    let above : All (λ b. b < c.in_ok-age.age) c.args.self.now.ages.items = c.in_ok-age.ensures in
    subst (λ l. IsAgeIndex (ops ++ c.args.op.now ∷ []) l (ages_under c.add_age.new.lists)) (ap (λ l. l.items) (sym c.in_ok-push.ensures.ok))
    (index_added ops c.args.op.now c.args.self.now.ages.items c.in_ok-age.age (keys_of c.args.op.now) (ages_under c.args.self.now.lists) (ages_under c.add_age.new.lists) above
    (keys_are c.args.op.now) c.in_default.ensures.ok index)

pub drop_age-requires : goal.drop_age-requires
drop_age-requires c =
    let above : All (λ b. b < c.in_ok-age.age) c.args.self.now.ages.items = c.in_ok-age.ensures in
    front_rises c.requires.ops c.args.self.now.ages.items c.in_ok-age.age (keys_of c.args.op.now) (ages_under c.args.self.now.lists)
    (ages_under c.add_age.new.lists) above c.in-Err.ensures.err c.requires.index

pub returns-in-Err-clause-err : goal.returns-in-Err-clause-err
returns-in-Err-clause-err c = λ ops index.
    let above : All (λ b. b < c.in_ok-age.age) c.args.self.now.ages.items = c.in_ok-age.ensures in
    let back : c.remove.new.self.items ≡ c.args.self.now.ages.items =
    c.remove.ensures.rest ∙ ap (λ l. remove l.items c.len-end.result) c.in_ok-push.ensures.ok
    ∙ ap (remove (c.args.self.now.ages.items ++ c.in_ok-age.age ∷ [])) c.len-end.ensures ∙ put_back c.args.self.now.ages.items c.in_ok-age.age in
    subst (λ l. IsAgeIndex ops l (ages_under c.drop_age.new.lists)) (sym back)
    (index_undone ops c.args.self.now.ages.items c.in_ok-age.age (keys_of c.args.op.now) (ages_under c.args.self.now.lists) (ages_under c.add_age.new.lists)
    (ages_under c.drop_age.new.lists) above
    c.in-Err.ensures.err c.drop_age.ensures.dropped index)
