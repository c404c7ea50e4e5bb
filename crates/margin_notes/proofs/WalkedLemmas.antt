-- A walk over the operations that puts down what each of them says.
use Rattle.std.proofs.Common.{List, [], ap, false, get_or, length, map, sym, take, ℕ, ◌+◌, ◌++◌, ◌<◌, ◌∙◌, ◌∷◌, ◌≡◌}
use Rattle.std.specs.Prelude.{None, Option, Some, option_to_list}
use Rattle.std.proofs.lemmas.List.{append-nil, map-append, take_more}
use Rattle.fugue_ids.specs.declared.op.Op.{Op}
use Rattle.replica_core.specs.Index.{is_section_or_note}
use Rattle.margin_notes.proofs.KeptLemmas.{said, said_more}

-- the entries stand for what the operations before a place of the list say
abbrev pub IsPutDown : {E Y : Type 0} → (Op → Option Y) → (E → Y) → List Op → List E → ℕ → Type 0
IsPutDown f g ops entries i = map g entries ≡ said f (take i ops)

module _ {E Y : Type 0} (f : Op → Option Y) (g : E → Y) (ops : List Op) where
  more : (i : ℕ) (op : Op) → i < length ops → op ≡ get_or ops i op → said f (take (i + 1) ops) ≡ said f (take i ops) ++ option_to_list (f op)
  more i op below is = ap (said f) (take_more ops i op below ∙ ap (λ z. take i ops ++ z ∷ []) (sym is)) ∙ said_more f (take i ops) op

  -- one that says nothing
  pub walk_passes : (entries : List E) (i : ℕ) (op : Op) → i < length ops → op ≡ get_or ops i op → f op ≡ None → IsPutDown f g ops entries i → IsPutDown f g ops entries (i + 1)
  walk_passes entries i op below is none are = are ∙ sym (append-nil (said f (take i ops))) ∙ sym (more i op below is ∙ ap (λ o. said f (take i ops) ++ option_to_list o) none)

  -- and one that says what an entry stands for
  pub walk_puts : (entries new : List E) (e : E) (i : ℕ) (op : Op) → i < length ops → op ≡ get_or ops i op → Some (g e) ≡ f op → new ≡ entries ++ e ∷ []
      → IsPutDown f g ops entries i
      → IsPutDown f g ops new (i + 1)
  walk_puts entries new e i op below is said_is new_is are =
      ap (map g) new_is
      ∙ map-append g entries (e ∷ [])
      ∙ (λ j. are j ++ option_to_list (said_is j))
      ∙ sym (more i op below is)

  -- between the Sections and Notes nothing is said
  pub walk_between : ((op : Op) → is_section_or_note op ≡ false → f op ≡ None) → (entries : List E) (i : ℕ) (op : Op) → i < length ops → op ≡ get_or ops i op
      → is_section_or_note op ≡ false
      → IsPutDown f g ops entries i → IsPutDown f g ops entries (i + 1)
  walk_between silent entries i op below is other = walk_passes entries i op below is (silent op other)
