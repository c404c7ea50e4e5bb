-- A `&` to a pile is made where one to each of its values is.
use Rattle.std.specs.Prelude.{[], ◌++◌}
use base.Fml.{Incl-trans}
use contract.BorrowLft.{meet_⊑_left}
use denote.RattleType.{RattleType}
use denote.Param.Laws.{Laws}
use denote.Param.Shared.{copy_shared}
use denote.Struct.Laws.{field_copy}
use denote.Struct.Lending.{of_Lends}
use Rattle.std.specs.declared.alloc.Allocator.{Ghosts}
use Rattle.std.specs.contracts.marker.PhantomData as Mark
use Rattle.std_alloc.specs.contracts.boxed.Box as Boxed
use Rattle.node_rope.specs.contracts.pile.Pile as C
use Rattle.node_rope.proofs.pile.Pile.TheLaw.Statement.{statement}
use Rattle.node_rope.proofs.LoanLemmas.{heap_lends-laws, all_lend}

pub shares : (R B : RattleType) (g : Ghosts B.Denot) (L : Laws R) (K : Laws B) → statement R B g L K
shares R B g L K =
    let kind = Boxed.the_row R B g in
    of_Lends (C.struct R B g) (C.the_codes R.Denot B.Denot R.coded B.coded (Mark.the_row kind).coded kind.coded) (C.the_heap R B g) (C.the_lent R B g)
    (λ d p. heap_lends-laws R L.shr_laws d.moorings d.values)
    (copy_shared (Mark.the_field kind) (field_copy (Mark.the_type kind) tt), tt)
    (λ M 𝓤 𝓛 d p. all_lend 𝓛 (C.the_row R B g).lives g.dealloc_token R L
    (Incl-trans (meet_⊑_left (R.lives ++ (B.lives ++ [])) _) (meet_⊑_left R.lives (B.lives ++ []))) d.moorings d.values)
