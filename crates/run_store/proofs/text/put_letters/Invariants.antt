use Rattle.std.proofs.Common.{take}
use Rattle.std.specs.Prelude.{Ok, flat_map}
use lib.Utf8.{encode}
use Rattle.fugue_ids.specs.Gathers.{GathersText}
use Rattle.run_store.proofs.text.put_letters.Given as goal

-- the letters so far were gathered
abbrev pub invariant-letters : goal.invariant-letters
invariant-letters g l =
    GathersText {T = Unit {0}} (g.O.Out.seen l.initial.output) (g.O.Out.seen l.output) l.initial.gather l.gather (Ok tt) (flat_map encode (take l.ch-index l.letters))
