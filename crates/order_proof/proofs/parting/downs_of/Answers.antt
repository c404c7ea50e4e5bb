use Rattle.std.proofs.Common.{arith, rules, ap, ◌≡◌, ◌∙◌}
use Rattle.order_proof.specs.Parting.{nothing_passed, passed_up}
use Rattle.order_proof.specs.Positions.{history_at}
use Rattle.order_proof.proofs.PassedLemmas.{passed-nothing, passed-same}
use Rattle.order_proof.proofs.WayLemmas.{way_ends}
use Rattle.order_proof.proofs.parting.downs_of.Goals as goal
use Rattle.order_proof.proofs.parting.downs_of.Goals.{then-members-test+else-ne, else-members-test}

pub returns : goal.returns
returns g c =
    let ops = g.P.Positions.operations c.args.held.now in
    let h = history_at ops c.members.below in
    let one = c.members.one in
    let other = c.members.other in
    let none : passed_up h one.next other.next ≡ nothing_passed = elim c.members-test.branch [
      | then-members-test+else-ne w ↦
          let same : one.next ≡ other.next = search rules in
          ap (λ o. passed_up h o other.next) same ∙ passed-same h other.next
      | else-members-test w ↦
          let start : c.members.below ≡ 0 = omega (arith, w.members-test) in
          ap (λ n. passed_up (history_at ops n) one.next other.next) start ∙ passed-nothing one.next other.next
    ] in
    way_ends ops c.args.end c.args.x c.args.y c.members.below one other c.count-count.ensures.lawful c.members.invariant none c.reverse.new.self.items c.reverse-2.new.self.items
    c.reverse.ensures.items c.reverse-2.ensures.items
