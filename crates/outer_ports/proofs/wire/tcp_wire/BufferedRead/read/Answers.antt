use Rattle.std.proofs.Common.{◌≡◌, ◌<◌, [], ◌++◌, IfOk, length, take, min, ap, subst, arith, length-append}
use Rattle.std.specs.Io.KnownBytes.{IsAtEnd, Keeps, prepend_known}
use Rattle.std.proofs.KnownBytes.{Keeps-refl, prepend_known-nil, prepend_known-read}
use Rattle.std.proofs.lemmas.List.{nil_from_length}
use Rattle.outer_ports.proofs.wire.tcp_wire.BufferedRead.read.Goals.{then-is_empty+in_ok-fill, else-is_empty}
use Rattle.outer_ports.proofs.wire.tcp_wire.BufferedRead.read.Goals as goal

pub returns-clause-bytes : goal.returns-clause-bytes
returns-clause-bytes g c =
    let remaining = g.S.Read.remaining in
    let before = c.args.self.now in
    let filled = c.if-is_empty.self in
    let kept : Keeps (prepend_known before.ahead (remaining before.stream)) (prepend_known filled.ahead (remaining filled.stream)) = elim c.if-is_empty.branch [
      | then-is_empty+in_ok-fill w ↦ rw (w.self-is, w.if-is_empty.ensures.empty, prepend_known-nil (remaining before.stream)) w.in_ok-fill.ensures.bytes
      | else-is_empty w ↦ rw w.self-is (Keeps-refl (prepend_known before.ahead (remaining before.stream)))
    ] in
    let ends : filled.ahead ≡ [] → IsAtEnd (remaining filled.stream) = elim c.if-is_empty.branch [
      | then-is_empty+in_ok-fill w ↦ rw w.self-is w.in_ok-fill.ensures.end
      | else-is_empty w ↦ λ none. absurd (omega (arith, ap length none, ap (λ b. length b.ahead) w.self-is, w.if-is_empty.ensures.some))
    ] in
    let n = min (length filled.ahead) (length c.args.buf.now) in
    let split = subst (λ r. IfOk r (λ n. filled.ahead ≡ take n c.give.new.buf ++ c.give.new.self)) c.give.ensures.count c.give.ensures.bytes in
    let read = prepend_known-read _ _ _ _ _ ((n ≡ 0) × (0 < length c.give.new.buf)) kept split (λ (p : (n ≡ 0) × (0 < length c.give.new.buf)).
    let none : filled.ahead ≡ [] = nil_from_length filled.ahead (omega (arith, p.0, p.1, c.give.ensures.len)) in
    (nil_from_length c.give.new.self (omega (arith, ap length split, ap length none, length-append (take n c.give.new.buf) c.give.new.self)), ends none)) in
    rw c.give.ensures.count (read.0, λ zero some. read.1 (zero, some))
