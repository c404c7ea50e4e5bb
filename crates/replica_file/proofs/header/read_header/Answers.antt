use Rattle.std.proofs.Common.{Bool, false, inr, refl, true, ◌≡◌, ◌≤◌, ℕ, List, length, take, ap, sym, ◌∙◌, arith}
use Rattle.std.proofs.lemmas.List.{take_all}
use Rattle.origin_model.specs.files.Image.{header_of, is_header, number_at}
use Rattle.replica_file.specs.Slots.{IsHeader}
use Rattle.replica_file.specs.declared.header.Header.{Header}
use Rattle.replica_file.proofs.PartLemmas.{specified_one}
use Rattle.replica_file.proofs.header.read_header.Goals as goal

-- the bytes that were read are the file's first
header_is : (seen bytes : List ℕ) (n : ℕ) (header : Header) → length bytes ≡ 13 → 13 ≤ n → take n bytes ≡ take (length bytes) seen → is_header bytes ≡ true
    → (header.replica ≡ number_at 5 bytes) × (header.hold ≡ number_at 9 bytes) → IsHeader seen header
header_is seen bytes n header long all specified is value =
    let same : bytes ≡ header_of seen = sym (take_all n bytes (omega (arith, long, all))) ∙ specified ∙ ap (λ (k : ℕ). take k seen) long in
    record {
      is_header = ap is_header (sym same) ∙ is;
      replica_is = value.0 ∙ ap (number_at 5) same;
      hold_is = value.1 ∙ ap (number_at 9) same;
    }

-- nor are they a header where the file has none
no_header : (seen bytes : List ℕ) (n : ℕ) → length bytes ≡ 13 → 13 ≤ n → take n bytes ≡ take (length bytes) seen → (is_header bytes ≡ true → ⊥) → is_header (header_of seen) ≡ false
no_header seen bytes n long all specified none =
    let same : bytes ≡ header_of seen = sym (take_all n bytes (omega (arith, long, all))) ∙ specified ∙ ap (λ (k : ℕ). take k seen) long in
    ap is_header (sym same) ∙ by (is_header bytes) none
  where
    by : (is : Bool) → (is ≡ true → ⊥) → is ≡ false
    by true none = absurd (none refl)
    by false none = refl

pub returns-in-None-clause-bad : goal.returns-in-None-clause-bad
returns-in-None-clause-bad g c is =
    specified_one (g.H.Disk.seen c.args.disk.now).past
    (λ h specified. inr (no_header h.last.seen c.read_from.new.buf c.in_ok-read_from.field-0 (omega arith) c.if-branch-lt-HEADER.false specified
    (λ e. cc (c.in-None.ensures.some.1 e))))
    c.in_ok-read_from.ensures.specified

pub returns-in-Some-clause-specified : goal.returns-in-Some-clause-specified
returns-in-Some-clause-specified g c =
    specified_one (g.H.Disk.seen c.args.disk.now).past
    (λ h specified. header_is h.last.seen c.read_from.new.buf c.in_ok-read_from.field-0 c.in-Some.header (omega arith) c.if-branch-lt-HEADER.false specified
    (c.in-Some.ensures.some.0 refl) c.in-Some.ensures.value)
    c.in_ok-read_from.ensures.specified
