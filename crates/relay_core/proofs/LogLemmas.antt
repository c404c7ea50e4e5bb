-- The frames of a log, as it is looked up and as it grows.
use Rattle.std.proofs.Common.{List, [], ap, append_assoc, arith, cond, drop, false, length, refl, sym, take, ℕ, ◌++◌, ◌||◌, ◌∙◌, ◌∷◌, ◌≡◌, ◌≤◌}
use Rattle.std.specs.Prelude.{flat_map, map, nat_eq}
use Rattle.std.specs.Cmp.Lexicographic.{pointwise}
use Rattle.std.specs.Int.{to_be_bytes, w32}
use Rattle.std.specs.List.{list_any}
use Rattle.std.specs.declared.alloc.Global.{Global}
use Rattle.std.specs.declared.vec.Vec.{Vec}
use Rattle.std.proofs.lemmas.List.{drop-map, length-map, map-append, take-append-le, take-map, take_all}
use Rattle.std.proofs.lemmas.List.Folds.{flat_map-map}
use Rattle.indexmap.specs.IndexSet.{insert_key}
use Rattle.relay_core.specs.Logs.{LogGrows}
use Rattle.origin_model.specs.relay.Session.{reply_from, is_logged}

-- a vector is among others where its bytes are among theirs
pub logged-keys : (frame : List ℕ) (ks : List (Vec ℕ Global)) → list_any (λ k. pointwise nat_eq frame k.items) ks ≡ is_logged (map (λ k. k.items) ks) frame
logged-keys frame [] = refl
logged-keys frame (k ∷ ks) = ap (λ b. pointwise nat_eq frame k.items || b) (logged-keys frame ks)

-- one frame more
pub keys-more : (ks : List (Vec ℕ Global)) (f : Vec ℕ Global) → is_logged (map (λ k. k.items) ks) f.items ≡ false
    → map (λ k. k.items) (insert_key (λ a b. pointwise nat_eq a.items b.items) ks f) ≡ map (λ k. k.items) ks ++ f.items ∷ []
keys-more ks f new =
    ap (λ b. map (λ (k : Vec ℕ Global). k.items) (cond b ks (ks ++ f ∷ []))) (logged-keys f.items ks ∙ new) ∙ map-append (λ (k : Vec ℕ Global). k.items) ks (f ∷ [])

-- the frames from the cursor on, joined
pub from-cursor : (ks : List (Vec ℕ Global)) (cursor : ℕ) → flat_map (λ k. k.items) (drop cursor ks) ≡ flat_map (λ f. f) (drop cursor (map (λ k. k.items) ks))
from-cursor ks cursor =
    sym (ap (flat_map (λ f. f)) (drop-map (λ (k : Vec ℕ Global). k.items) cursor ks) ∙ flat_map-map (λ (f : List ℕ). f) (λ (k : Vec ℕ Global). k.items) (drop cursor ks))

-- the parts of an answer
pub joined : (ks : List (Vec ℕ Global)) (cursor n : ℕ) (a b c number : List ℕ) → a ≡ flat_map (λ k. k.items) (drop cursor ks) → b ≡ a ++ 0x55 ∷ [] → c ≡ b ++ number
    → number ≡ to_be_bytes w32 n → n ≡ length ks → c ≡ reply_from (map (λ k. k.items) ks) cursor
joined ks cursor n a b c number ea eb ec en el =
    let frames : List ℕ = flat_map (λ f. f) (drop cursor (map (λ (k : Vec ℕ Global). k.items) ks)) in
    let count : number ≡ to_be_bytes w32 (length (map (λ (k : Vec ℕ Global). k.items) ks)) = en ∙ ap (to_be_bytes w32) (el ∙ sym (length-map ks (λ (k : Vec ℕ Global). k.items))) in
    ec ∙ ap (λ t. t ++ number) (eb ∙ ap (λ t. t ++ 0x55 ∷ []) (ea ∙ from-cursor ks cursor)) ∙ append_assoc frames (0x55 ∷ []) number ∙ ap (λ t. frames ++ 0x55 ∷ t) count

-- what a log that grew is, cut to its old length
pub cut_back : (old new cut : List (Vec ℕ Global)) (count : ℕ) → LogGrows (map (λ k. k.items) old) (map (λ k. k.items) new) → cut ≡ take count new → count ≡ length old
    → map (λ k. k.items) cut ≡ map (λ k. k.items) old
cut_back old new cut count g e c =
    let items : List (Vec ℕ Global) → List (List ℕ) = map (λ (k : Vec ℕ Global). k.items) in
    let long : length (items old) ≡ length old = length-map old (λ (k : Vec ℕ Global). k.items) in
    let within : count ≤ length (items old) = omega arith in
    ap items e ∙ sym (take-map (λ (k : Vec ℕ Global). k.items) count new) ∙ ap (take count) g.1 ∙ take-append-le count (items old) g.0 within
    ∙ take_all count (items old) (omega arith)
