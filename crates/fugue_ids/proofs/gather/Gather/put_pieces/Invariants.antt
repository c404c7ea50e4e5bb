use Rattle.std.proofs.Common.{take}
use Rattle.std.specs.Prelude.{Ok, flat_map}
use Rattle.fugue_ids.specs.Gathers.{GathersText}
use Rattle.fugue_ids.proofs.gather.Gather.put_pieces.Given as goal

abbrev pub invariant-loop-piece : goal.invariant-loop-piece
invariant-loop-piece g l =
    GathersText {T = Unit {0}} (g.O.Out.seen l.initial.out) (g.O.Out.seen l.out) l.initial.self l.self (Ok tt) (flat_map (λ piece. piece.now) (take l.piece-index l.pieces))
