-- Gathered texts, one after the other, and what a flush at the end leaves.
use Rattle.std.specs.Prelude.{◌≡◌, ℕ, suc, ◌+◌, ◌<◌, List, [], ◌++◌, length, take, drop, flat_map, Result, Ok, Err, refl, ◌-◌}
use Rattle.std.proofs.Common.{ap, sym, subst, ◌∙◌, append_assoc, arith, length-append, get_or, add-one}
use Rattle.std.proofs.lemmas.List.{append-nil, take-append-drop}
use Rattle.fugue_ids.specs.Outs.{OutView, WritesBytes}
use Rattle.fugue_ids.specs.Gathers.{Gathered, GathersText}
use Rattle.fugue_ids.specs.declared.out.Failed.{Failed}
use Rattle.fugue_ids.specs.declared.limits.TheConstants.{BUFFER}
use Rattle.fugue_ids.proofs.JoinLemmas.{front_grows, parts_split, parts_step, text_joins, text_none, text_stops}

-- nothing went out yet
pub gathered_start : (v : OutView) (waiting : List ℕ) → Gathered v v waiting waiting
gathered_start v waiting = record { gone = []; arrays = 0; whole = refl; text_is = refl; wrote = text_none {E = Failed} tt v }

-- what waited, and more, was gathered further
pub gathered_joins : (u v w : OutView) (p q text more : List ℕ) → Gathered u v p text → Gathered v w q (p ++ more) → Gathered u w q (text ++ more)
gathered_joins u v w p q text more s t = record {
  gone = s.gone ++ t.gone;
  arrays = s.arrays + t.arrays;
  whole = omega (arith, length-append s.gone t.gone, s.whole, t.whole);
  text_is =
      append_assoc s.gone t.gone q ∙ ap (λ (l : List ℕ). s.gone ++ l) t.text_is ∙ sym (append_assoc s.gone p more) ∙ ap (λ (l : List ℕ). l ++ more) s.text_is;
  wrote = text_joins {E = Failed} {T = Unit {0}} {S = Unit {0}} tt (Ok tt) u v w s.gone t.gone s.wrote t.wrote;
}

-- what waited, and more, did not go out
pub gathered_stops : {S : Type 0} (u v w : OutView) (p text more : List ℕ) → Gathered u v p text
    → WritesBytes {E = Failed} {T = S} v w (Err (record {})) (p ++ more) → WritesBytes {E = Failed} {T = S} u w (Err (record {})) (text ++ more)
gathered_stops {S} u v w p text more s t =
    subst (WritesBytes {E = Failed} {T = S} u w (Err (record {})))
    (sym (append_assoc s.gone p more) ∙ ap (λ (l : List ℕ). l ++ more) s.text_is)
    (text_joins {E = Failed} {T = Unit {0}} {S = S} tt (Err (record {})) u v w s.gone (p ++ more) s.wrote t)

-- nothing more was gathered
pub gathers_none : {T : Type 0} (x : T) (v : OutView) (p : List ℕ) → GathersText {T = T} v v p p (Ok x) []
gathers_none x v p = record { ok = subst (Gathered v v p) (sym (append-nil p)) (gathered_start v p); err = tt; none = tt }

-- the first of two texts was not gathered
pub gathers_stop : {T S : Type 0} (u v : OutView) (p q a b : List ℕ) → GathersText {T = T} u v p q (Err (record {})) a → GathersText {T = S} u v p q (Err (record {})) (a ++ b)
gathers_stop {T} {S} u v p q a b s = record {
  ok = tt;
  err = subst (WritesBytes {E = Failed} {T = S} u v (Err (record {}))) (append_assoc p a b) (text_stops {E = Failed} {T = T} {S = S} (record {}) u v (p ++ a) b s.err);
  none = s.none;
}

-- the first of two texts was gathered, and the second was or wasn't
pub gathers_join : {T S : Type 0} (x : T) (result : Result S Failed) (u v w : OutView) (p q r a b : List ℕ)
    → GathersText {T = T} u v p q (Ok x) a → GathersText {T = S} v w q r result b → GathersText {T = S} u w p r result (a ++ b)
gathers_join {T} {S} x (Ok y) u v w p q r a b s t = record {
  ok = subst (Gathered u w r) (append_assoc p a b) (gathered_joins u v w q r (p ++ a) b s.ok t.ok);
  err = tt;
  none = tt;
}
gathers_join {T} {S} x (Err e) u v w p q r a b s t = record {
  ok = tt;
  err = subst (WritesBytes {E = Failed} {T = S} u w (Err (record {}))) (append_assoc p a b) (gathered_stops u v w q (p ++ a) b s.ok t.err);
  none = t.none;
}

-- the full array went out
pub gathers_flushed : (v w : OutView) (p : List ℕ) → length p ≡ BUFFER → WritesBytes {E = Failed} {T = Unit {0}} v w (Ok tt) p
    → GathersText {T = Unit {0}} v w p [] (Ok tt) []
gathers_flushed v w p full t = record {
  ok = record { gone = p; arrays = 1; whole = omega (arith, full); text_is = refl; wrote = t };
  err = tt;
  none = tt;
}

-- or it did not
pub flush_fails : (v w : OutView) (p q : List ℕ) → q ≡ [] → WritesBytes {E = Failed} {T = Unit {0}} v w (Err (record {})) p
    → GathersText {T = Unit {0}} v w p q (Err (record {})) []
flush_fails v w p q none t = record { ok = tt; err = text_stops {E = Failed} {T = Unit {0}} {S = Unit {0}} (record {}) v w p [] t; none = none }

-- after a front of the piece, and room made, the array took a part more
pub gathers_filled : (u v w : OutView) (p q r piece : List ℕ) (at n : ℕ) → GathersText {T = Unit {0}} u v p q (Ok tt) (take at piece)
    → GathersText {T = Unit {0}} v w q r (Ok tt) [] → GathersText {T = Unit {0}} u w p (r ++ take n (take (length piece - at) (drop at piece))) (Ok tt) (take (at + n) piece)
gathers_filled u v w p q r piece at n s t =
    let part : List ℕ = take n (take (length piece - at) (drop at piece)) in
    let filled : GathersText {T = Unit {0}} w w r (r ++ part) (Ok tt) part = record { ok = gathered_start w (r ++ part); err = tt; none = tt } in
    subst (GathersText {T = Unit {0}} u w p (r ++ part) (Ok tt)) (front_grows at n piece)
    (gathers_join {T = Unit {0}} {S = Unit {0}} tt (Ok tt) u v w p q (r ++ part) (take at piece) part s
    (gathers_join {T = Unit {0}} {S = Unit {0}} tt (Ok tt) v w w q r (r ++ part) [] part t filled))

-- after a front of the piece, no room was made
pub gathers_full : (u v w : OutView) (p q r piece : List ℕ) (at : ℕ) → GathersText {T = Unit {0}} u v p q (Ok tt) (take at piece)
    → GathersText {T = Unit {0}} v w q r (Err (record {})) [] → GathersText {T = Unit {0}} u w p r (Err (record {})) piece
gathers_full u v w p q r piece at s t =
    subst (GathersText {T = Unit {0}} u w p r (Err (record {}))) (take-append-drop at piece)
    (gathers_join {T = Unit {0}} {S = Unit {0}} tt (Err (record {})) u v w p q r (take at piece) (drop at piece) s
    (gathers_stop {T = Unit {0}} {S = Unit {0}} v w q r [] (drop at piece) t))

-- a text of parts, of which one was not gathered
pub gathers_parts_stop : {X T S : Type 0} (f : X → List ℕ) (xs : List X) (i : ℕ) (d : X) (x : T) (u v w : OutView) (p q r : List ℕ) → i < length xs
    → GathersText {T = T} u v p q (Ok x) (flat_map f (take i xs)) → GathersText {T = S} v w q r (Err (record {})) (f (get_or xs i d))
    → GathersText {T = S} u w p r (Err (record {})) (flat_map f xs)
gathers_parts_stop {X} {T} {S} f xs i d x u v w p q r below s t =
    subst (GathersText {T = S} u w p r (Err (record {}))) (sym (parts_split f xs i d below))
    (gathers_join {T = T} {S = S} x (Err (record {})) u v w p q r (flat_map f (take i xs)) (f (get_or xs i d) ++ flat_map f (drop (suc i) xs)) s
    (gathers_stop {T = S} {S = S} v w q r (f (get_or xs i d)) (flat_map f (drop (suc i) xs)) t))

-- one part more was gathered
pub gathers_parts_grow : {X T S : Type 0} (f : X → List ℕ) (xs : List X) (i : ℕ) (d : X) (y : S) (x : T) (u v w : OutView) (p q r : List ℕ) → i < length xs
    → GathersText {T = T} u v p q (Ok x) (flat_map f (take i xs)) → GathersText {T = S} v w q r (Ok y) (f (get_or xs i d))
    → GathersText {T = S} u w p r (Ok y) (flat_map f (take (i + 1) xs))
gathers_parts_grow {X} {T} {S} f xs i d y x u v w p q r below s t =
    subst (GathersText {T = S} u w p r (Ok y)) (sym (ap (λ (k : ℕ). flat_map f (take k xs)) (add-one i) ∙ parts_step f xs i d below))
    (gathers_join {T = T} {S = S} x (Ok y) u v w p q r (flat_map f (take i xs)) (f (get_or xs i d)) s t)

-- from nothing that waited, a text was gathered and then flushed: it was written
pub flush_writes : {T S : Type 0} (x : T) (result : Result S Failed) (u v w : OutView) (p text : List ℕ) → GathersText {T = T} u v [] p (Ok x) text
    → WritesBytes {E = Failed} {T = S} v w result p → WritesBytes {E = Failed} {T = S} u w result text
flush_writes {T} {S} x result u v w p text s t =
    subst (WritesBytes {E = Failed} {T = S} u w result) s.ok.text_is
    (text_joins {E = Failed} {T = Unit {0}} {S = S} tt result u v w s.ok.gone p s.ok.wrote t)

-- or it was not gathered, and a front of it is written
pub stop_writes : {T S : Type 0} (u v : OutView) (p text : List ℕ) → GathersText {T = T} u v [] p (Err (record {})) text
    → WritesBytes {E = Failed} {T = S} u v (Err (record {})) text
stop_writes {T} {S} u v p text s =
    subst (WritesBytes {E = Failed} {T = S} u v (Err (record {}))) (append-nil text) (text_stops {E = Failed} {T = T} {S = S} (record {}) u v text [] s.err)
