use Rattle.bulk_world.specs.Turns.{TurnsLead}
use Rattle.bulk_world.proofs.TurnLemmas.{all_left, first_goes_on, none_left, second_goes_on}
use Rattle.bulk_world.proofs.turn.take_turns.Goals.{then-turn-eq1+in_ok-take_turn, else-turn-eq1+in_ok-take_turn-2}
use Rattle.bulk_world.proofs.turn.take_turns.Goals as goal

pub turns-init : goal.turns-init
turns-init c =
    record {
      leads = all_left c.args.count c.args.seed c.args.first.now c.args.second.now;
      first = c.requires.first;
      second = c.requires.second;
      first_settled = c.requires.first_settled;
      second_settled = c.requires.second_settled;
    }

pub turns-preserved : goal.turns-preserved
turns-preserved c =
    let W = TurnsLead c.args.count 1 c.args.seed c.args.first.now c.args.second.now in
    elim c.if-turn-eq1.branch [
      | then-turn-eq1+in_ok-take_turn w ↦
          rw (w.first-is, w.second-is) (first_goes_on W c.args.count c.turns.done c.turns.x c.next-x.result c.turns.first c.turns.second w.take_turn.new.replica
          c.turns.invariant c.turns-test.true w.if-turn-eq1.true c.next-x.ensures w.in_ok-take_turn.ensures.ok w.in_ok-take_turn.ensures.settled)
      | else-turn-eq1+in_ok-take_turn-2 w ↦
          rw (w.first-is, w.second-is) (second_goes_on W c.args.count c.turns.done c.turns.x c.next-x.result c.turns.first c.turns.second w.take_turn-else-turn-eq1.new.replica
          c.turns.invariant c.turns-test.true w.if-turn-eq1.false c.next-x.ensures w.in_ok-take_turn-2.ensures.ok w.in_ok-take_turn-2.ensures.settled)
    ]

pub returns-clause-leads : goal.returns-clause-leads
returns-clause-leads c =
    none_left (TurnsLead c.args.count 1 c.args.seed c.args.first.now c.args.second.now) c.args.count c.turns.done c.turns.x c.turns.first c.turns.second c.turns-test.false
    c.turns.invariant.leads
