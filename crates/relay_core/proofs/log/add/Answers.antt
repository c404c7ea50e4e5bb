use Rattle.std.proofs.Common.{[], List, ap, ℕ, ◌++◌, ◌∙◌, ◌∷◌, ◌≡◌}
use Rattle.std.specs.Prelude.{map}
use Rattle.std.specs.declared.alloc.Global.{Global}
use Rattle.std.specs.declared.vec.Vec.{Vec}
use Rattle.relay_core.specs.Logs.{frames_in}
use Rattle.relay_core.proofs.LogLemmas.{keys-more}
use Rattle.relay_core.proofs.log.add.Goals as goal

pub returns-clause-ok : goal.returns-clause-ok
returns-clause-ok g c =
    let same : c.in_ok-frame.frame.items ≡ c.args.frame.now = c.in_ok-frame.ensures.items_if_clones_equal (λ x y h. h) in
    ap (map (λ (k : Vec ℕ Global). k.items)) c.in-Ok.ensures.keys ∙ keys-more c.args.log.now.keys c.in_ok-frame.frame (rw same c.requires)
    ∙ ap (λ (f : List ℕ). frames_in c.args.log.now ++ f ∷ []) same
