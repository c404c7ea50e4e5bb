use Rattle.std.proofs.Common.{List, ap, append_assoc, sym, ℕ, ◌++◌, ◌∙◌, ◌≡◌}
use Rattle.origin_model.specs.frames.Frames.{frame}
use Rattle.op_frame.proofs.encoding.encode.Goals as goal

-- six parts one after the other
six_parts : (o a b c d e f o1 o2 o3 o4 o5 o6 o7 : List ℕ) → o1 ≡ o → o2 ≡ o1 ++ a → o3 ≡ o2 ++ b → o4 ≡ o3 ++ c → o5 ≡ o4 ++ d → o6 ≡ o5 ++ e → o7 ≡ o6 ++ f
    → o7 ≡ o ++ (((((a ++ b) ++ c) ++ d) ++ e) ++ f)
six_parts o a b c d e f o1 o2 o3 o4 o5 o6 o7 p0 p1 p2 p3 p4 p5 p6 = rw (p6, p5, p4, p3, p2, p1, p0) (simp append_assoc)

pub returns-in-Text-clause-ok : goal.returns-in-Text-clause-ok
returns-in-Text-clause-ok c =
    six_parts _ _ _ _ _ _ _ _ _ _ _ _ _ _ c.reserve.ensures.items c.put.ensures.items c.put_id.ensures.items c.put_id-in-Text.ensures.items
    c.put_origin.ensures.items c.put_origin-in-Text.ensures.items c.put_scalar.ensures.puts.items
    ∙ ap (λ (l : List ℕ). c.args.out.now.items ++ l) (sym (ap frame c.in-Text.is))
