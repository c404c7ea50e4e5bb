-- Where two chains part.
use Rattle.std.specs.Prelude.{Bool, false, if◌then◌else◌, not, List, [], ◌∷◌}
use Rattle.fugue_ids.specs.Identifiers.{Identifier, id_eq}
use Rattle.origin_model.specs.declared.order.comparison.Fork.{Fork}
use Rattle.origin_model.specs.declared.order.comparison.Fork.TheVariants.{Same, FirstEnds, SecondEnds, At}

-- the first place where two chains differ
abbrev pub fork_of : List Identifier → List Identifier → Fork
fork_of [] [] = Same
fork_of [] (b ∷ bs) = FirstEnds
fork_of (a ∷ as') [] = SecondEnds
fork_of (a ∷ as') (b ∷ bs) = if id_eq a b then fork_of as' bs else At a b

-- the comparison of two chains, by where they part
abbrev pub by_fork : Bool → (Identifier → Identifier → Bool) → Fork → Bool
by_fork prefix_first at_fork Same = false
by_fork prefix_first at_fork FirstEnds = prefix_first
by_fork prefix_first at_fork SecondEnds = not prefix_first
by_fork prefix_first at_fork (At a b) = at_fork a b
