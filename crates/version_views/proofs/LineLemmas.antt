-- The lines of versions, one operation after the other, the oldest first.
use Rattle.version_views.proofs.Words.{List, false, None, Op, Option, Some, [], ap, append-nil, arith, flat_map, length, option_map, option_to_list, refl, suc, sym, ℕ, ◌++◌, ◌+◌}
use Rattle.version_views.proofs.Words.{◌<◌, ◌∙◌, ◌∷◌, ◌≡◌}
use Rattle.std.specs.Prelude.{slice_get}
use Rattle.std.proofs.Common.{append_assoc, drop, drop-cons, get_or, reverse}
use Rattle.std.proofs.lemmas.List.{length-reverse, reverse-append}
use Rattle.std.proofs.lemmas.List.Concat.{flat_map-append}
use Rattle.replica_core.specs.Index.{is_section_or_note}
use Rattle.version_views.specs.Versions.{name_in, versions_up_to}
use Rattle.version_views.proofs.VersionLemmas.{name_there, no_name}
use Rattle.version_views.specs.Views.{line_at, line_in, version_line, versions_text}

-- the lines of some operations, of which the first has n before it
abbrev pub lines_from : ℕ → List Op → List Op → ℕ → List ℕ
lines_from r h [] n = []
lines_from r h (op ∷ ops) n = line_in r h n op ++ lines_from r h ops (n + 1)

-- one operation more at the end
lines_push : (r : ℕ) (h ops : List Op) (op : Op) (n : ℕ) → lines_from r h (ops ++ op ∷ []) n ≡ lines_from r h ops n ++ line_in r h (n + length ops) op
lines_push r h [] op n = let e : n ≡ n + 0 = omega arith in append-nil (line_in r h n op) ∙ ap (λ k. line_in r h k op) e
lines_push r h (o ∷ ops) op n =
    let e : (n + 1) + length ops ≡ n + suc (length ops) = omega arith in
    ap (λ t. line_in r h n o ++ t) (lines_push r h ops op (n + 1) ∙ ap (λ k. lines_from r h ops (n + 1) ++ line_in r h k op) e)
    ∙ sym (append_assoc (line_in r h n o) (lines_from r h ops (n + 1)) (line_in r h (n + suc (length ops)) op))

-- the line of one version
one_line : (n : ℕ) (o : Option (List ℕ)) → flat_map version_line (option_to_list (option_map (λ name. record { name = name; count = n }) o))
    ≡ (elim o [ None ↦ [] | Some name ↦ version_line (record { name = name; count = n }) ])
one_line n None = refl
one_line n (Some name) = append-nil (version_line (record { name = name; count = n }))

-- the lines of the versions are those of the operations
lines_are : (r : ℕ) (h ops : List Op) → flat_map version_line (versions_up_to r h ops) ≡ lines_from r h (reverse ops) 0
lines_are r h [] = refl
lines_are r h (op ∷ older) =
    let e : length older ≡ 0 + length (reverse older) = omega (arith, length-reverse older) in
    flat_map-append version_line (versions_up_to r h older) (option_to_list (option_map (λ name. record { name = name; count = length older }) (name_in r h op)))
    ∙ ap (λ t. flat_map version_line (versions_up_to r h older) ++ t) (one_line (length older) (name_in r h op))
    ∙ ap (λ t. t ++ line_in r h (length older) op) (lines_are r h older)
    ∙ ap (λ k. lines_from r h (reverse older) 0 ++ line_in r h k op) e
    ∙ sym (lines_push r h (reverse older) op 0)
    ∙ ap (λ l. lines_from r h l 0) (sym (reverse-append (op ∷ []) older))

pub text_lines : (h : List Op) (r : ℕ) → versions_text h r ≡ lines_from r h (reverse h) 0
text_lines h r = lines_are r h h

-- the lines to come begin with that of the next operation
next_line : (r : ℕ) (h ops : List Op) (n : ℕ) (op : Op) → n < length ops → op ≡ get_or ops n op
    → lines_from r h (drop n ops) n ≡ line_in r h n op ++ lines_from r h (drop (n + 1) ops) (n + 1)
next_line r h ops n op below is =
    let e : suc n ≡ n + 1 = omega arith in
    ap (λ l. lines_from r h l n) (drop-cons ops n op below ∙ ap (λ (o : Op). o ∷ drop (suc n) ops) (sym is))
    ∙ ap (λ k. line_in r h n op ++ lines_from r h (drop k ops) (n + 1)) e

-- that is the line of its position
pub line_next : (r : ℕ) (h : List Op) (n : ℕ) (op : Op) → n < length (reverse h) → op ≡ get_or (reverse h) n op → slice_get (reverse h) n ≡ Some op
    → lines_from r h (drop n (reverse h)) n ≡ line_at r h n ++ lines_from r h (drop (n + 1) (reverse h)) (n + 1)
line_next r h n op below is there =
    next_line r h (reverse h) n op below is
    ∙ ap (λ (o : Option (List ℕ)). (elim o [ None ↦ [] | Some name ↦ version_line (record { name = name; count = n }) ]) ++ lines_from r h (drop (n + 1) (reverse h)) (n + 1))
    (sym (name_there r h n op there))

-- where it has none they are those after it
pub no_line : (r : ℕ) (h ops : List Op) (n : ℕ) (op : Op) → n < length ops → op ≡ get_or ops n op → is_section_or_note op ≡ false
    → lines_from r h (drop n ops) n ≡ lines_from r h (drop (n + 1) ops) (n + 1)
no_line r h ops n op below is other =
    next_line r h ops n op below is
    ∙ ap (λ (o : Option (List ℕ)). (elim o [ None ↦ [] | Some name ↦ version_line (record { name = name; count = n }) ]) ++ lines_from r h (drop (n + 1) ops) (n + 1))
    (no_name r h op other)
