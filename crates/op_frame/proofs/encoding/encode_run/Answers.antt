use Rattle.std.proofs.Common.{List, ap, ℕ, ◌++◌, ◌∙◌, ◌≡◌, append_assoc, length}
use Rattle.std.specs.Int.{to_be_bytes, w16}
use Rattle.op_frame.proofs.RunFrameLemmas.{run_frames}
use Rattle.op_frame.proofs.encoding.encode_run.Goals as goal

-- eight parts one after the other
run_parts : (o k a b l r n s o0 o1 o2 o3 o4 o5 o6 o7 : List ℕ) → o0 ≡ o → o1 ≡ o0 ++ k → o2 ≡ o1 ++ a → o3 ≡ o2 ++ b → o4 ≡ o3 ++ l → o5 ≡ o4 ++ r → o6 ≡ o5 ++ n → o7 ≡ o6 ++ s
    → o7 ≡ o ++ (((((k ++ a) ++ b) ++ l) ++ r) ++ (n ++ s))
run_parts o k a b l r n s o0 o1 o2 o3 o4 o5 o6 o7 p0 p1 p2 p3 p4 p5 p6 p7 = rw (p7, p6, p5, p4, p3, p2, p1, p0) (simp append_assoc)

pub returns-clause-have_frames : goal.returns-clause-have_frames
returns-clause-have_frames c =
    let is = c.has_identifiers.ensures in
    run_frames c.args.start.now.id c.args.start.now.section c.args.start.now.left c.args.start.now.right c.args.text.now is.id c.requires.counters is.section is.left is.right
    c.put_scalars.ensures.scalars

pub returns-clause-ok : goal.returns-clause-ok
returns-clause-ok c =
    run_parts _ _ _ _ _ _ (to_be_bytes w16 (length c.args.text.now)) _ _ _ _ _ _ _ _ _ c.in_ok-reserve.ensures.items c.put.ensures.items c.put_id.ensures.items
    c.put_id-2.ensures.items
    c.put_origin.ensures.items c.put_origin-2.ensures.items
    (c.put-2.ensures.items ∙ ap (λ (l : List ℕ). c.put_origin-2.new.out.items ++ l) c.to_be_bytes.ensures) c.put_scalars.ensures.puts.items
