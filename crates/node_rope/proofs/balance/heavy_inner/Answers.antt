use Rattle.std.proofs.Common.{◌≡◌, IfSome, Option, Some, None, ap, ◌∙◌, sym}
use Rattle.node_rope.specs.declared.cells.Link.{Link}
use Rattle.node_rope.specs.Made.{shapes_of}
use Rattle.node_rope.specs.Shapes.{shape_at, link_number}
use Rattle.node_rope.specs.Sides.{facing_shape}
use Rattle.node_rope.proofs.FaceLemmas.{faced-parent}
use Rattle.node_rope.proofs.balance.heavy_inner.Goals as goal

-- what is reported of a value that o, too, leads to
said : (P : Link → Type 0) (o from : Option Link) → IfSome o (λ m. from ≡ Some m) → ((m : Link) → from ≡ Some m → P m) → IfSome o P
said P None from e h = tt
said P (Some m) from e h = h m e

pub returns-clause-child : goal.returns-clause-child
returns-clause-child g c =
    let ss = shapes_of c.args.store.now in
    said (λ m. link_number (shape_at ss m.number).parent ≡ Some c.args.c.number) c.if_heavy.result c.facing-below.result.right c.if_heavy.ensures
    (λ m e. faced-parent ss c.requires.linked c.args.side c.args.c.number m (sym (ap (λ h. h.right) (c.facing-below.ensures ∙ ap (facing_shape c.args.side) c.shape.ensures)) ∙ e))
