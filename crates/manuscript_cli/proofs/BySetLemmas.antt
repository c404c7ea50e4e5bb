-- What is printed of a lawful history is fixed by its set.
use Rattle.std.proofs.Common.{◌≡◌, ℕ, List, subst}
use Rattle.fugue_ids.specs.Outs.{OutView, Took}
use Rattle.fugue_ids.specs.declared.op.Op.{Op}
use Rattle.catalogue_notes.specs.Arranged.{arranged_text}
use Rattle.catalogue_notes.specs.Laws.{ArrangedBySet}
use Rattle.origin_model.specs.operations.Verdict.{Lawful}
use Rattle.origin_model.specs.order.Laws.{OrderBySet, SameOps}
use Rattle.origin_model.specs.order.Printed.{manuscript}
use Rattle.command_kinds.specs.Changes.{Change}
use Rattle.manuscript_cli.specs.Headline.{PrintedBySet}

-- a text of histories that is fixed by the set of their operations
abbrev pub IsFixedBySet : (List Op → List ℕ) → Type 0
IsFixedBySet text = (a b : List Op) → Lawful a → Lawful b → SameOps a b → text a ≡ text b

pub manuscript_by_set : OrderBySet → IsFixedBySet manuscript
manuscript_by_set order a b x y same = (order a b x y same).same_manuscript

pub arranged_text_by_set : ArrangedBySet → IsFixedBySet arranged_text
arranged_text_by_set arranged a b x y same = (arranged a b x y same).same_text

-- so is what was printed of one
pub printed_by_set : (text : List Op → List ℕ) → IsFixedBySet text → (history : List Op) (output : Change OutView) → Lawful history → Took output.old output.new (text history)
    → PrintedBySet text history output
printed_by_set text fixed history output lawful took = record {
  lawful = lawful;
  printed = λ other is same. subst (Took output.old output.new) (fixed history other lawful is same) took;
}
