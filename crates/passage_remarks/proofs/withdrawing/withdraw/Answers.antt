use Rattle.std.proofs.Common.{subst, sym, ◌∙◌}
use Rattle.passage_remarks.specs.Withdrawing.{remark_numbered}
use Rattle.passage_remarks.proofs.WithdrawLemmas.{can_go, gained_of, is_accepted, not_refused, numbered, withdrawn_ready}
use Rattle.passage_remarks.proofs.withdrawing.withdraw.Goals as goal

pub returns-in-Ok-clause-made : goal.returns-in-Ok-clause-made
returns-in-Ok-clause-made c =
    let old = c.args.replica.now in
    let x = c.in-Some.target in
    let r = numbered (remark_numbered old.held.history c.args.number) x (sym c.in-Some.is ∙ c.in_ok-target.ensures.comment) in
    let ready = withdrawn_ready old.held.history c.args.number r.0 x r.1 r.2 in
    let a = is_accepted old c.deliver.new.self x c.in-Ok.field-0 c.in_ok-target.ensures.sound.few c.requires.settled ready c.in-Ok.ensures.answer c.in-Ok.ensures.ok in
    let same = sym r.2 in
    record { remark = r.0; numbered = r.1; ready = can_go old.held.history c.args.number r.0 r.1; gained = subst (gained_of old c.deliver.new.self) same a.gained }

pub returns-in-Ok-clause-refused : goal.returns-in-Ok-clause-refused
returns-in-Ok-clause-refused c =
    let old = c.args.replica.now in
    let x = c.in-Some.target in
    let r = numbered (remark_numbered old.held.history c.args.number) x (sym c.in-Some.is ∙ c.in_ok-target.ensures.comment) in
    let ready = withdrawn_ready old.held.history c.args.number r.0 x r.1 r.2 in
    let a = is_accepted old c.deliver.new.self x c.in-Ok.field-0 c.in_ok-target.ensures.sound.few c.requires.settled ready c.in-Ok.ensures.answer c.in-Ok.ensures.ok in
    not_refused old c.args.number r.0 r.1 a.room

pub returns-in-Ok-clause-settled : goal.returns-in-Ok-clause-settled
returns-in-Ok-clause-settled c =
    let old = c.args.replica.now in
    let x = c.in-Some.target in
    let r = numbered (remark_numbered old.held.history c.args.number) x (sym c.in-Some.is ∙ c.in_ok-target.ensures.comment) in
    let ready = withdrawn_ready old.held.history c.args.number r.0 x r.1 r.2 in
    (is_accepted old c.deliver.new.self x c.in-Ok.field-0 c.in_ok-target.ensures.sound.few c.requires.settled ready c.in-Ok.ensures.answer c.in-Ok.ensures.ok).settled
