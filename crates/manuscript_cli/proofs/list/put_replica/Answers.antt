use Rattle.std.proofs.Common.{[], ap, length, subst, ◌++◌, ◌∙◌, ◌∷◌, ◌≡◌}
use Rattle.std.specs.Prelude.{codes, decimal}
use Rattle.std.proofs.lemmas.List.{length-reverse}
use Rattle.fugue_ids.specs.Gathers.{GathersText}
use Rattle.manuscript_cli.proofs.ListingLemmas.{nine_pieces}
use Rattle.manuscript_cli.proofs.list.put_replica.Goals as goal

pub returns : goal.returns
returns g c =
    let replica = c.args.replica.now in
    let number : c.as_bytes.result.now ≡ decimal replica.number = c.as_bytes.ensures.value ∙ c.format.ensures.text ∙ ap decimal c.number.ensures.number in
    let hold : c.as_bytes-2.result.now ≡ decimal replica.hold = c.as_bytes-2.ensures.value ∙ c.format-2.ensures.text ∙ ap decimal c.hold.ensures.hold in
    let accepted : c.as_bytes-3.result.now ≡ decimal (length replica.held.history) =
    c.as_bytes-3.ensures.value ∙ c.format-3.ensures.text ∙ ap decimal (c.len.ensures ∙ ap length c.accepted.ensures.accepted ∙ length-reverse replica.held.history) in
    let waiting : c.as_bytes-4.result.now ≡ decimal (length replica.held.waiting) =
    c.as_bytes-4.ensures.value ∙ c.format-4.ensures.text ∙ ap (λ l. decimal (length l)) c.waiting.ensures.waiting in
    subst (GathersText {T = Unit {0}} (g.O.Out.seen c.args.output.now) (g.O.Out.seen c.put_pieces.new.out) c.args.gather.now c.put_pieces.new.self c.put_pieces.result)
    (nine_pieces (codes "replica ") c.as_bytes.result.now (codes ", hold ") c.as_bytes-2.result.now (codes ", accepted ") c.as_bytes-3.result.now (codes ", waiting ")
    c.as_bytes-4.result.now (10 ∷ [])
    ∙ (λ i. codes "replica " ++ number i ++ codes ", hold " ++ hold i ++ codes ", accepted " ++ accepted i ++ codes ", waiting " ++ waiting i ++ 10 ∷ [])) c.put_pieces.ensures
