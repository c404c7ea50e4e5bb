-- Texts that go out one after the other.
use Rattle.std.specs.Prelude.{◌≡◌, ℕ, zero, suc, ◌+◌, ◌-◌, ◌<◌, ◌≤◌, List, [], ◌∷◌, ◌++◌, length, take, drop, flat_map, Option, Some, None, Result, Ok, Err, IfSome, IsSome, refl}
use Rattle.std.proofs.Common.{ap, sym, subst, ◌∙◌, append_assoc, arith, length-append, length-drop, get_or, add-one}
use Rattle.std.proofs.lemmas.List.{append-nil, take-append-le, take_all, take-append-drop, length-take-le}
use Rattle.std.proofs.Math.Seq.{take-append-add, take-add}
use Rattle.std.specs.Io.KnownBytes.{append_known, prepend_known}
use Rattle.fugue_ids.specs.Outs.{OutView, OutIsSpecified, room_after, Took, TookFront, IsSure, WritesSome, WritesBytes}

append_known-nil : (w : Option (List ℕ)) → append_known w [] ≡ w
append_known-nil None = refl
append_known-nil (Some bytes) = ap Some (append-nil bytes)

pub append_known-twice : (w : Option (List ℕ)) (a b : List ℕ) → append_known (append_known w a) b ≡ append_known w (a ++ b)
append_known-twice None a b = refl
append_known-twice (Some bytes) a b = ap Some (append_assoc bytes a b)

spent-zero : (room : Option ℕ) → room_after 0 room ≡ room
spent-zero None = refl
spent-zero (Some r) = ap Some (omega arith)

spent-twice : (room : Option ℕ) (m n : ℕ) → room_after n (room_after m room) ≡ room_after (m + n) room
spent-twice None m n = refl
spent-twice (Some r) m n = ap Some (omega arith)

-- nothing went out
pub took_none : (v w : OutView) → w.written ≡ v.written → w.room ≡ v.room → Took v w []
took_none v w e f = record { written = e ∙ sym (append_known-nil v.written); room = f ∙ sym (spent-zero v.room) }

-- what tells goes on telling
pub tells_more : (w v : Option (List ℕ)) (bytes : List ℕ) → v ≡ append_known w bytes → IsSome w → IsSome v
tells_more None v bytes is tells = absurd (cc tells)
tells_more (Some held) v bytes is tells = subst (λ (o : Option (List ℕ)). IsSome o) (sym is) refl

pub took_tells : (v w : OutView) (bytes : List ℕ) → Took v w bytes → OutIsSpecified v → OutIsSpecified w
took_tells v w bytes t = tells_more v.written w.written bytes t.written

-- two parts went out
pub took_joins : (u v w : OutView) (a b : List ℕ) → Took u v a → Took v w b → Took u w (a ++ b)
took_joins u v w a b s t = record {
  written = t.written ∙ ap (λ (o : Option (List ℕ)). append_known o b) s.written ∙ append_known-twice u.written a b;
  room = t.room ∙ ap (room_after (length b)) s.room ∙ spent-twice u.room (length a) (length b) ∙ ap (λ (n : ℕ). room_after n u.room) (sym (length-append a b));
}

front_longer : (u v : OutView) (a b : List ℕ) → TookFront u v a → TookFront u v (a ++ b)
front_longer u v a b t = record {
  count = t.count;
  within = omega (arith, t.within, length-append a b);
  took = subst (Took u v) (sym (take-append-le t.count a b t.within)) t.took;
}

front_after : (u v w : OutView) (a b : List ℕ) → Took u v a → TookFront v w b → TookFront u w (a ++ b)
front_after u v w a b s t = record {
  count = length a + t.count;
  within = omega (arith, t.within, length-append a b);
  took = subst (Took u w) (sym (take-append-add a b t.count)) (took_joins u v w a (take t.count b) s t.took);
}

sure_stops : (E T S : Type 0) (e : E) (room : Option ℕ) (m n before now : ℕ) → m ≤ n
    → IfSome room (λ r. IsSure {E = E} {T = T} r m before now (Err e)) → IfSome room (λ r. IsSure {E = E} {T = S} r n before now (Err e))
sure_stops E T S e None m n before now le s = tt
sure_stops E T S e (Some r) m n before now le s = record { fits = λ fit. s.fits (omega (arith, le, fit)); within = tt; counts_no_fault = tt }

sure_joins : {E T S : Type 0} (x : T) (result : Result S E) (room mid : Option ℕ) (m n f0 f1 f2 : ℕ) → mid ≡ room_after m room
    → IfSome room (λ r. IsSure {E = E} {T = T} r m f0 f1 (Ok x)) → IfSome mid (λ r. IsSure {E = E} {T = S} r n f1 f2 result)
    → IfSome room (λ r. IsSure {E = E} {T = S} r (m + n) f0 f2 result)
sure_joins x result None mid m n f0 f1 f2 is s t = tt
sure_joins x result (Some r) None m n f0 f1 f2 is s t = absurd (cc is)
sure_joins x (Ok y) (Some r) (Some q) m n f0 f1 f2 is s t =
    let left : q ≡ r - m = cc is in
    record { fits = λ fit. tt; within = omega (arith, left, s.within, t.within); counts_no_fault = t.counts_no_fault ∙ s.counts_no_fault }
sure_joins x (Err e) (Some r) (Some q) m n f0 f1 f2 is s t =
    let left : q ≡ r - m = cc is in
    record { fits = λ fit. t.fits (omega (arith, left, fit)); within = tt; counts_no_fault = tt }

-- nothing was to go out
pub text_none : {E T : Type 0} (x : T) (v : OutView) → WritesBytes {E = E} {T = T} v v (Ok x) []
text_none {E} {T} x v =
    record { ok = took_none v v refl refl; err = tt; cause = record { later = omega arith; failed = tt }; sure = sure_none v.room v.faults; specified_no_fault = λ tells. refl }
  where
    sure_none : (room : Option ℕ) (faults : ℕ) → IfSome room (λ r. IsSure {E = E} {T = T} r 0 faults faults (Ok x))
    sure_none None faults = tt
    sure_none (Some r) faults = record { fits = λ fit. tt; within = omega arith; counts_no_fault = refl }

-- the first of two texts failed
pub text_stops : {E T S : Type 0} (e : E) (u v : OutView) (a b : List ℕ) → WritesBytes {E = E} {T = T} u v (Err e) a → WritesBytes {E = E} {T = S} u v (Err e) (a ++ b)
text_stops {E} {T} {S} e u v a b s = record {
  ok = tt;
  err = front_longer u v a b s.err;
  cause = record { later = s.cause.later; failed = s.cause.failed };
  sure = sure_stops E T S e u.room (length a) (length (a ++ b)) u.faults v.faults (omega (arith, length-append a b)) s.sure;
  specified_no_fault = λ tells. tt;
}

-- the first of two texts went out, and the second did or didn't
pub text_joins : {E T S : Type 0} (x : T) (result : Result S E) (u v w : OutView) (a b : List ℕ)
    → WritesBytes {E = E} {T = T} u v (Ok x) a → WritesBytes {E = E} {T = S} v w result b → WritesBytes {E = E} {T = S} u w result (a ++ b)
text_joins {E} {T} {S} x (Ok y) u v w a b s t = record {
  ok = took_joins u v w a b s.ok t.ok;
  err = tt;
  cause = record { later = omega (arith, s.cause.later, t.cause.later); failed = tt };
  sure = subst (λ n. IfSome u.room (λ r. IsSure {E = E} {T = S} r n u.faults w.faults (Ok y))) (sym (length-append a b))
      (sure_joins {E = E} {T = T} {S = S} x (Ok y) u.room v.room (length a) (length b) u.faults v.faults w.faults s.ok.room s.sure t.sure);
  specified_no_fault = λ tells. t.specified_no_fault (took_tells u v a s.ok tells) ∙ s.specified_no_fault tells;
}
text_joins {E} {T} {S} x (Err e) u v w a b s t = record {
  ok = tt;
  err = front_after u v w a b s.ok t.err;
  cause = record { later = omega (arith, s.cause.later, t.cause.later); failed = omega (arith, s.cause.later, t.cause.failed) };
  sure = subst (λ n. IfSome u.room (λ r. IsSure {E = E} {T = S} r n u.faults w.faults (Err e))) (sym (length-append a b))
      (sure_joins {E = E} {T = T} {S = S} x (Err e) u.room v.room (length a) (length b) u.faults v.faults w.faults s.ok.room s.sure t.sure);
  specified_no_fault = λ tells. tt;
}

-- what `&piece[at..]` is, after what is before it
take_front_rest : (at : ℕ) (piece : List ℕ) → take at piece ++ take (length piece - at) (drop at piece) ≡ piece
take_front_rest at piece = ap (λ (t : List ℕ). take at piece ++ t) (take_all (length piece - at) (drop at piece) (omega (arith, length-drop at piece))) ∙ take-append-drop at piece

pub front_grows : (at n : ℕ) (piece : List ℕ) → take at piece ++ take n (take (length piece - at) (drop at piece)) ≡ take (at + n) piece
front_grows at n piece =
    ap (λ (t : List ℕ). take at piece ++ take n t) (take_all (length piece - at) (drop at piece) (omega (arith, length-drop at piece))) ∙ sym (take-add at n piece)

sure_call : (E T : Type 0) (x : T) (room : Option ℕ) (n m before now : ℕ) → m ≡ n → IfSome room (λ r. n ≤ r) → IfSome room (λ r. now ≡ before)
    → IfSome room (λ r. IsSure {E = E} {T = T} r m before now (Ok x))
sure_call E T x None n m before now is within counts_no_fault = tt
sure_call E T x (Some r) n m before now is within counts_no_fault = record { fits = λ fit. tt; within = omega (arith, is, within); counts_no_fault = counts_no_fault }

-- a call that took a front of the piece
call_wrote : {E T : Type 0} (x : T) (v w : OutView) (piece : List ℕ) (n : ℕ) → WritesSome {E = E} v w (Ok n) piece → WritesBytes {E = E} {T = T} v w (Ok x) (take n piece)
call_wrote {E} {T} x v w piece n t = record {
  ok = t.took;
  err = tt;
  cause = record { later = t.cause.later; failed = tt };
  sure = sure_call E T x v.room n (length (take n piece)) v.faults w.faults (length-take-le n piece t.bound) t.within t.counts_no_fault;
  specified_no_fault = t.specified_no_fault;
}

sure_full : (E S : Type 0) (e : E) (room : Option ℕ) (n before now : ℕ) → IfSome room (λ r. (0 < n) × (r ≡ 0))
    → IfSome room (λ r. IsSure {E = E} {T = S} r n before now (Err e))
sure_full E S e None n before now full = tt
sure_full E S e (Some r) n before now full = record { fits = λ fit. omega (arith, full.0, full.1, fit); within = tt; counts_no_fault = tt }

-- a call that failed
call_failed : {E S : Type 0} (e : E) (v w : OutView) (piece : List ℕ) → WritesSome {E = E} v w (Err e) piece → WritesBytes {E = E} {T = S} v w (Err e) piece
call_failed {E} {S} e v w piece t = record {
  ok = tt;
  err = record { count = 0; within = omega arith; took = t.none };
  cause = record { later = t.cause.later; failed = t.cause.failed };
  sure = sure_full E S e v.room (length piece) v.faults w.faults t.full;
  specified_no_fault = λ tells. tt;
}

-- what takes a text goes on telling
pub text_tells : {E T : Type 0} (result : Result T E) (v w : OutView) (text : List ℕ) → WritesBytes {E = E} {T = T} v w result text → OutIsSpecified v → OutIsSpecified w
text_tells (Ok x) v w text t = took_tells v w text t.ok
text_tells (Err e) v w text t = took_tells v w (take t.err.count text) t.err.took

-- so does what takes a front of a piece
pub write_tells : {E : Type 0} (result : Result ℕ E) (v w : OutView) (piece : List ℕ) → WritesSome {E = E} v w result piece → OutIsSpecified v → OutIsSpecified w
write_tells (Ok n) v w piece t = took_tells v w (take n piece) t.took
write_tells (Err e) v w piece t = took_tells v w (take 0 piece) t.none

-- a text of parts, split at one of them
pub parts_split : {X : Type 0} (f : X → List ℕ) (xs : List X) (i : ℕ) (d : X) → i < length xs
    → flat_map f xs ≡ flat_map f (take i xs) ++ (f (get_or xs i d) ++ flat_map f (drop (suc i) xs))
parts_split f [] i d below = absurd (omega (arith, below))
parts_split f (x ∷ xs) zero d below = refl
parts_split f (x ∷ xs) (suc i) d below =
    ap (λ (t : List ℕ). f x ++ t) (parts_split f xs i d (omega (arith, below)))
    ∙ sym (append_assoc (f x) (flat_map f (take i xs)) (f (get_or xs i d) ++ flat_map f (drop (suc i) xs)))

pub parts_step : {X : Type 0} (f : X → List ℕ) (xs : List X) (i : ℕ) (d : X) → i < length xs
    → flat_map f (take (suc i) xs) ≡ flat_map f (take i xs) ++ f (get_or xs i d)
parts_step f [] i d below = absurd (omega (arith, below))
parts_step f (x ∷ xs) zero d below = append-nil (f x)
parts_step f (x ∷ xs) (suc i) d below =
    ap (λ (t : List ℕ). f x ++ t) (parts_step f xs i d (omega (arith, below))) ∙ sym (append_assoc (f x) (flat_map f (take i xs)) (f (get_or xs i d)))

-- a text of parts, of which one did not go out
pub parts_stop : {X E T S : Type 0} (f : X → List ℕ) (xs : List X) (i : ℕ) (d : X) (e : E) (x : T) (u v w : OutView) → i < length xs
    → WritesBytes {E = E} {T = T} u v (Ok x) (flat_map f (take i xs)) → WritesBytes {E = E} {T = S} v w (Err e) (f (get_or xs i d))
    → WritesBytes {E = E} {T = S} u w (Err e) (flat_map f xs)
parts_stop {X} {E} {T} {S} f xs i d e x u v w below s t =
    subst (WritesBytes {E = E} {T = S} u w (Err e)) (sym (parts_split f xs i d below))
    (text_joins {E = E} {T = T} {S = S} x (Err e) u v w (flat_map f (take i xs)) (f (get_or xs i d) ++ flat_map f (drop (suc i) xs)) s
    (text_stops {E = E} {T = S} {S = S} e v w (f (get_or xs i d)) (flat_map f (drop (suc i) xs)) t))

-- one part more went out
pub parts_grow : {X E T S : Type 0} (f : X → List ℕ) (xs : List X) (i : ℕ) (d : X) (y : S) (x : T) (u v w : OutView) → i < length xs
    → WritesBytes {E = E} {T = T} u v (Ok x) (flat_map f (take i xs)) → WritesBytes {E = E} {T = S} v w (Ok y) (f (get_or xs i d))
    → WritesBytes {E = E} {T = S} u w (Ok y) (flat_map f (take (i + 1) xs))
parts_grow {X} {E} {T} {S} f xs i d y x u v w below s t =
    subst (WritesBytes {E = E} {T = S} u w (Ok y)) (sym (ap (λ (k : ℕ). flat_map f (take k xs)) (add-one i) ∙ parts_step f xs i d below))
    (text_joins {E = E} {T = T} {S = S} x (Ok y) u v w (flat_map f (take i xs)) (f (get_or xs i d)) s t)

-- one call more, after a front of the piece that went out
pub call_grows : {E T : Type 0} (x : T) (u v w : OutView) (piece : List ℕ) (at n : ℕ)
    → WritesBytes {E = E} {T = T} u v (Ok x) (take at piece) → WritesSome {E = E} v w (Ok n) (take (length piece - at) (drop at piece))
    → WritesBytes {E = E} {T = T} u w (Ok x) (take (at + n) piece)
call_grows {E} {T} x u v w piece at n s t =
    subst (WritesBytes {E = E} {T = T} u w (Ok x)) (front_grows at n piece)
    (text_joins {E = E} {T = T} {S = T} x (Ok x) u v w (take at piece) (take n (take (length piece - at) (drop at piece))) s
    (call_wrote {E = E} {T = T} x v w (take (length piece - at) (drop at piece)) n t))

-- a call that failed, after a front of the piece that went out
pub call_stops : {E T S : Type 0} (x : T) (e : E) (u v w : OutView) (piece : List ℕ) (at : ℕ) → at < length piece
    → WritesBytes {E = E} {T = T} u v (Ok x) (take at piece) → WritesSome {E = E} v w (Err e) (take (length piece - at) (drop at piece))
    → WritesBytes {E = E} {T = S} u w (Err e) piece
call_stops {E} {T} {S} x e u v w piece at below s t =
    subst (WritesBytes {E = E} {T = S} u w (Err e)) (take_front_rest at piece)
    (text_joins {E = E} {T = T} {S = S} x (Err e) u v w (take at piece) (take (length piece - at) (drop at piece)) s
    (call_failed {E = E} {S = S} e v w (take (length piece - at) (drop at piece)) t))

pub prepend_twice : (a b : List ℕ) (left : Option (List ℕ)) → prepend_known a (prepend_known b left) ≡ prepend_known (a ++ b) left
prepend_twice a b None = refl
prepend_twice a b (Some l) = ap Some (sym (append_assoc a b l))
