-- How a cut of two texts, one after the other, is made of the cuts of each.
use Rattle.std.proofs.Common.{◌≡◌, ℕ, Bool, true, false, List, [], ◌∷◌, ◌++◌, refl, sym, ap, ap₂, ◌∙◌, append_assoc, append-nil}
use Rattle.std.specs.Prelude.{if◌then◌else◌}
use Rattle.unicode_segmentation.specs.Segments.{Rule, prepend, cut}
use Rattle.cluster_text.specs.Boundaries.{onto}

-- a part before the pieces, as a piece of its own or as the front of the first
abbrev pub attach : Bool → List ℕ → List (List ℕ) → List (List ℕ)
attach is_break part pieces = if is_break then part ∷ pieces else prepend part pieces

attach_some : (b : Bool) (x : List ℕ) (ps : List (List ℕ)) → (q : List ℕ) × (qs : List (List ℕ)) × (attach b x ps ≡ q ∷ qs)
attach_some true x ps = (x, ps, refl)
attach_some false x [] = (x, [], refl)
attach_some false x (p ∷ ps) = (x ++ p, ps, refl)

pub attach-nil : (b : Bool) (x : List ℕ) → attach b x [] ≡ x ∷ []
attach-nil true x = refl
attach-nil false x = refl

attach-append : (b : Bool) (x p : List ℕ) (ps qs : List (List ℕ)) → attach b x ((p ∷ ps) ++ qs) ≡ attach b x (p ∷ ps) ++ qs
attach-append true x p ps qs = refl
attach-append false x p ps qs = refl

-- a text with a character has a piece
cut_some : (rule : Rule) (before front : List ℕ) (c : ℕ) (ds after : List ℕ)
    → (q : List ℕ) × (qs : List (List ℕ)) × (cut rule before (front ++ c ∷ ds) after ≡ q ∷ qs)
unfolding cut
cut_some rule before [] c ds after = attach_some _ (c ∷ []) _
cut_some rule before (x ∷ xs) c ds after = attach_some _ (x ∷ []) _

-- where the rule breaks after c, the pieces up to there and those from there on are all
pub cut-boundary : (rule : Rule) (before front : List ℕ) (c : ℕ) (ds after : List ℕ) → rule (c ∷ onto front before) (ds ++ after) ≡ true
    → cut rule before (front ++ c ∷ ds) after ≡ cut rule before (front ++ c ∷ []) (ds ++ after) ++ cut rule (c ∷ onto front before) ds after
unfolding cut
cut-boundary rule before [] c ds after breaks = rw breaks refl
cut-boundary rule before (x ∷ xs) c ds after breaks =
    let same : (xs ++ c ∷ ds) ++ after ≡ (xs ++ c ∷ []) ++ (ds ++ after) =
    append_assoc xs (c ∷ ds) after ∙ sym (append_assoc xs (c ∷ []) (ds ++ after)) in
    let b = rule (x ∷ before) ((xs ++ c ∷ []) ++ (ds ++ after)) in
    let some = cut_some rule (x ∷ before) xs c [] (ds ++ after) in
    let rest = cut rule (c ∷ onto xs (x ∷ before)) ds after in
    ap₂ (λ t ps. attach (rule (x ∷ before) t) (x ∷ []) ps) same (cut-boundary rule (x ∷ before) xs c ds after breaks)
    ∙ ap (λ ps. attach b (x ∷ []) (ps ++ rest)) some.2
    ∙ attach-append b (x ∷ []) some.0 some.1 rest
    ∙ ap (λ ps. attach b (x ∷ []) ps ++ rest) (sym some.2)

-- the rule reads no more than the next character of what follows a place
abbrev pub ReadsNext : Rule → Type 0
ReadsNext rule = (before : List ℕ) (c : ℕ) (xs ys : List ℕ) → rule before (c ∷ xs) ≡ rule before (c ∷ ys)

-- then what follows a text tells nothing of its pieces
pub cut-after : (rule : Rule) → ReadsNext rule → (before cs after : List ℕ) → cut rule before cs after ≡ cut rule before cs []
unfolding cut
cut-after rule next before [] after = refl
cut-after rule next before (c ∷ []) after = attach-nil (rule (c ∷ before) after) (c ∷ []) ∙ sym (attach-nil (rule (c ∷ before) []) (c ∷ []))
cut-after rule next before (c ∷ (d ∷ cs)) after =
    ap₂ (λ b ps. attach b (c ∷ []) ps) (next (c ∷ before) d (cs ++ after) (cs ++ [])) (cut-after rule next (c ∷ before) (d ∷ cs) after)

-- the rule does not look past the character c
abbrev pub StopsAt : Rule → ℕ → Type 0
StopsAt rule c = (d : ℕ) (xs older after : List ℕ) → rule (d ∷ (xs ++ c ∷ older)) after ≡ rule (d ∷ xs) after

-- then the pieces after c are those of a text that begins there
pub cut-past : (rule : Rule) (c : ℕ) → StopsAt rule c → (older xs cs after : List ℕ) → cut rule (xs ++ c ∷ older) cs after ≡ cut rule xs cs after
unfolding cut
cut-past rule c stops older xs [] after = refl
cut-past rule c stops older xs (d ∷ cs) after =
    ap₂ (λ b ps. attach b (d ∷ []) ps) (stops d xs older (cs ++ after)) (cut-past rule c stops older (d ∷ xs) cs after)

-- the rule looks no further back than to d, which stands after `before`
abbrev pub StopsAfter : Rule → ℕ → List ℕ → Type 0
StopsAfter rule d before = (xs after : List ℕ) → rule (xs ++ d ∷ before) after ≡ rule (xs ++ d ∷ []) after

-- then the pieces from d on are those of a text that begins there
cut-on : (rule : Rule) (d : ℕ) (before : List ℕ) → StopsAfter rule d before → (xs cs after : List ℕ) → cut rule (xs ++ d ∷ before) cs after ≡ cut rule (xs ++ d ∷ []) cs after
unfolding cut
cut-on rule d before stops xs [] after = refl
cut-on rule d before stops xs (c ∷ cs) after =
    ap₂ (λ b ps. attach b (c ∷ []) ps) (stops (c ∷ xs) (cs ++ after)) (cut-on rule d before stops (c ∷ xs) cs after)

pub cut-from : (rule : Rule) (d : ℕ) (before : List ℕ) → StopsAfter rule d before → (cs after : List ℕ) → cut rule before (d ∷ cs) after ≡ cut rule [] (d ∷ cs) after
unfolding cut
cut-from rule d before stops cs after = ap₂ (λ b ps. attach b (d ∷ []) ps) (stops [] (cs ++ after)) (cut-on rule d before stops [] cs after)

-- so a text that is cut before d falls into two
pub cut-apart : (rule : Rule) (c d : ℕ) (front ds : List ℕ) → ReadsNext rule → StopsAfter rule d (c ∷ onto front []) → rule (c ∷ onto front []) (d ∷ ds) ≡ true
    → cut rule [] (front ++ c ∷ d ∷ ds) [] ≡ cut rule [] (front ++ c ∷ []) [] ++ cut rule [] (d ∷ ds) []
cut-apart rule c d front ds next stops breaks =
    cut-boundary rule [] front c (d ∷ ds) [] (ap (rule (c ∷ onto front [])) (append-nil (d ∷ ds)) ∙ breaks)
    ∙ ap₂ ◌++◌ (cut-after rule next [] (front ++ c ∷ []) ((d ∷ ds) ++ [])) (cut-from rule d (c ∷ onto front []) stops ds [])
