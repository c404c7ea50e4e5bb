use Rattle.bulk_world.specs.Turns.{TurnsLead}
use Rattle.bulk_world.proofs.TurnLemmas.{IsUnderWay}
use Rattle.bulk_world.proofs.turn.take_turns.Given as goal

-- whatever the turns that are left lead to, all of them lead to
abbrev pub invariant-turns : goal.invariant-turns
invariant-turns l = IsUnderWay (TurnsLead l.count 1 l.fn.seed l.fn.first l.fn.second) l.count l.done l.x l.first l.second
