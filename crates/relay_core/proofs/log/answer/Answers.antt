use Rattle.std.proofs.Common.{List, ap, ℕ, ◌++◌, ◌∙◌}
use Rattle.std.specs.Prelude.{flat_map}
use Rattle.std.specs.declared.alloc.Global.{Global}
use Rattle.std.specs.declared.vec.Vec.{Vec}
use Rattle.relay_core.proofs.LogLemmas.{joined}
use Rattle.relay_core.proofs.log.answer.Goals as goal

pub returns : goal.returns
returns g c =
    let frames : List (Vec ℕ Global) → List ℕ = flat_map (λ (k : Vec ℕ Global). k.items) in
    c.new.ensures ∙ joined c.args.log.now.keys c.args.cursor c.len.result _ _ _ _
    (c.in_ok-append_all.ensures ∙ ap (λ t. t ++ frames c.from_cursor.result.now) c.new-bytes.ensures.items ∙ ap frames c.from_cursor.ensures)
    c.in_ok-push.ensures.items c.in_ok-extend_from_slice.ensures.items c.to_be_bytes.ensures c.len.ensures.len
