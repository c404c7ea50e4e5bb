-- What is shown of the sections, one after another.
use Rattle.std.proofs.Common.{List, [], ap, get_or, length, sym, take, ℕ, ◌+◌, ◌++◌, ◌<◌, ◌≤◌, ◌∙◌, ◌∷◌, ◌≡◌}
use Rattle.std.specs.Prelude.{Some, map, slice_get}
use Rattle.std.proofs.lemmas.List.{get_or-map, length-map, map_more, map_push, take_all}
use Rattle.fugue_ids.specs.Identifiers.{Identifier}
use Rattle.fugue_ids.specs.declared.op.Op.{Op}
use Rattle.section_plan.specs.declared.part.Part.{Part as ReadPart}
use Rattle.draft_plan.specs.Matching.{shown_part}
use Rattle.draft_plan.specs.Plain.{arranged_part}
use Rattle.draft_plan.specs.Readings.{seen_part}
use Rattle.draft_plan.specs.declared.revision.Shown.{Shown}
use Rattle.draft_plan.proofs.ShapeLemmas.{got}

pub shown_more : (h : List Op) (ys : List Identifier) (shown : List Shown) (k : ℕ) (s : Identifier) (x : Shown) → slice_get ys k ≡ Some s → shown_part x ≡ arranged_part h s
    → map shown_part shown ≡ map (arranged_part h) (take k ys) → map shown_part (shown ++ x ∷ []) ≡ map (arranged_part h) (take (k + 1) ys)
shown_more h ys shown k s x at is was =
    let g = got ys k s at in
    map_push shown_part shown x
    ∙ (ap (λ l. l ++ shown_part x ∷ []) was
    ∙ (ap (λ e. map (arranged_part h) (take k ys) ++ e ∷ []) (is ∙ ap (arranged_part h) (sym g.1)) ∙ sym (map_more (arranged_part h) ys k s g.0)))

-- parts that were compared up to a place
pub same_more : (a b : List ReadPart) (k : ℕ) (d : ReadPart) → k < length a → k < length b → map seen_part (take k a) ≡ map seen_part (take k b)
    → seen_part (get_or a k d) ≡ seen_part (get_or b k d)
    → map seen_part (take (k + 1) a) ≡ map seen_part (take (k + 1) b)
same_more a b k d l m was is =
    map_more seen_part a k d l ∙ (ap (λ x. x ++ seen_part (get_or a k d) ∷ []) was ∙ (ap (λ e. map seen_part (take k b) ++ e ∷ []) is ∙ sym (map_more seen_part b k d m)))

pub same_all : (a b : List ReadPart) (k : ℕ) → length a ≤ k → length b ≤ k → map seen_part (take k a) ≡ map seen_part (take k b) → map seen_part a ≡ map seen_part b
same_all a b k l m was = ap (map seen_part) (sym (take_all k a l)) ∙ (was ∙ ap (map seen_part) (take_all k b m))

pub same_at : (a b : List ReadPart) (k : ℕ) (d : ReadPart) → k < length a → k < length b → map seen_part a ≡ map seen_part b → seen_part (get_or a k d) ≡ seen_part (get_or b k d)
same_at a b k d l m e = sym (get_or-map seen_part a k d (seen_part d) l) ∙ (ap (λ x. get_or x k (seen_part d)) e ∙ get_or-map seen_part b k d (seen_part d) m)

pub same_long : (a b : List ReadPart) → map seen_part a ≡ map seen_part b → length a ≡ length b
same_long a b e = sym (length-map a seen_part) ∙ (ap length e ∙ length-map b seen_part)
