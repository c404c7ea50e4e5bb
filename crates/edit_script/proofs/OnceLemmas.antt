-- A line asks for one edit at most, and a script has one outcome.
use Rattle.std.proofs.Common.{◌≡◌, ◌≢◌, ◌<◌, ◌+◌, ◌^◌, ◌⊎◌, inl, inr, ℕ, suc, List, [], ◌∷◌, ◌++◌, length, refl, sym, ap, ap₂, subst, ◌∙◌, arith, append-nil}
use Rattle.std.specs.Prelude.{decimal, encode_utf8_all}
use Rattle.std.specs.List.{flat_map}
use Rattle.std.proofs.lemmas.Fmt.{decimal_injective}
use Rattle.std.proofs.lemmas.Option.{none-some, same_Some}
use Rattle.std.proofs.lemmas.Str.{encodes_same}
use Rattle.fugue_ids.specs.declared.op.Op.{Op}
use Rattle.origin_model.specs.edits.Edits.{Command, Put, Cut, Add, DropSection}
use Rattle.origin_model.specs.edits.State.{State}
use Rattle.origin_model.specs.edits.Refusal.{made_by}
use Rattle.origin_model.specs.edits.Effect.{with_ops}
use Rattle.origin_model.specs.declared.edit_fault.EditFault.{EditFault}
use Rattle.origin_model.specs.declared.edit_fault.EditFault.TheVariants as edit
use Rattle.edit_script.specs.declared.run.ScriptFault.{ScriptFault}
use Rattle.edit_script.specs.declared.run.ScriptFault.TheVariants as fault
use Rattle.edit_script.specs.declared.line.LineFault.{LineFault}
use Rattle.edit_script.specs.declared.line.LineFault.TheVariants as why
use Rattle.edit_script.specs.Grammar.{Asks, HasNoSpace, IsFaultyLine, IsNote, escaped_scalar, lines}
use Rattle.edit_script.specs.Laws.{AsksOnce, RunsOnce}
use Rattle.edit_script.specs.Lines.{fault_at}
use Rattle.edit_script.specs.Scripts.{Does, IsRefusedEdit, LinesLead, RunsUpTo, RunsWhole, StopsAtLine, by_scalars, line_refusal}
use Rattle.edit_script.proofs.ComesLemmas.{script_outcome}
use Rattle.edit_script.proofs.DecideLemmas.{line_is_one}
use Rattle.edit_script.proofs.EscapeLemmas.{all_read, other_head}
use Rattle.edit_script.proofs.LineLemmas.{adds, cuts, drops, puts}
use Rattle.edit_script.proofs.WordLemmas.{decimal_spaceless}

after_first : (byte : ℕ) (word : List ℕ) → HasNoSpace (byte ∷ word) → HasNoSpace word
after_first byte word spaceless = λ k d within. spaceless (suc k) d (omega (arith, within))

-- a text is split at its first space in one way
one_split : (a b x y : List ℕ) → HasNoSpace a → HasNoSpace b → a ++ 32 ∷ x ≡ b ++ 32 ∷ y → (a ≡ b) × (x ≡ y)
one_split [] [] x y left right is = (refl, cc)
one_split [] (d ∷ b) x y left right is = let head : 32 ∷ x ≡ d ∷ (b ++ 32 ∷ y) = is in absurd (right 0 0 (omega arith) (first 32 d _ _ head))
  where
    first : (m n : ℕ) (u v : List ℕ) → m ∷ u ≡ n ∷ v → n ≡ m
    first m n u v e = cc
one_split (c ∷ a) [] x y left right is = let head : c ∷ (a ++ 32 ∷ x) ≡ 32 ∷ y = is in absurd (left 0 0 (omega arith) (first c 32 _ _ head))
  where
    first : (m n : ℕ) (u v : List ℕ) → m ∷ u ≡ n ∷ v → m ≡ n
    first m n u v e = cc
one_split (c ∷ a) (d ∷ b) x y left right is =
    let whole : c ∷ (a ++ 32 ∷ x) ≡ d ∷ (b ++ 32 ∷ y) = is in
    let parts = halves c d (a ++ 32 ∷ x) (b ++ 32 ∷ y) whole in
    let further = one_split a b x y (after_first c a left) (after_first d b right) parts.1 in
    (ap₂ (λ (n : ℕ) (l : List ℕ). n ∷ l) parts.0 further.0, further.1)
  where
    halves : (m n : ℕ) (u v : List ℕ) → m ∷ u ≡ n ∷ v → (m ≡ n) × (u ≡ v)
    halves m n u v e = (cc, cc)

same_number : (m n : ℕ) → m < 2 ^ 32 → n < 2 ^ 32 → decimal m ≡ decimal n → m ≡ n
same_number m n small less same = decimal_injective m n (omega (arith, small)) (omega (arith, less)) same

same_ordinal : (m n : ℕ) → m + 1 < 2 ^ 32 → n + 1 < 2 ^ 32 → decimal (m + 1) ≡ decimal (n + 1) → m ≡ n
same_ordinal m n small less same = let next = same_number (m + 1) (n + 1) small less same in omega (arith, next)

number_split : (m n : ℕ) (x y : List ℕ) → m < 2 ^ 32 → n < 2 ^ 32 → decimal m ++ 32 ∷ x ≡ decimal n ++ 32 ∷ y → (decimal m ≡ decimal n) × (x ≡ y)
number_split m n x y small less is =
    one_split (decimal m) (decimal n) x y (decimal_spaceless m (omega (arith, small))) (decimal_spaceless n (omega (arith, less))) is

same_written : (new other : List ℕ) → flat_map escaped_scalar new ≡ flat_map escaped_scalar other → new ≡ other
same_written new other is = all_read (flat_map escaped_scalar new) new [] other (sym (append-nil (flat_map escaped_scalar new))) refl is

asks_once : (line : List ℕ) (a b : Command) → Asks line a → Asks line b → a ≡ b
asks_once line (Add at title) b asks other =
    let found = adds (decimal (at + 1) ++ 32 ∷ encode_utf8_all title) b (subst (λ (l : List ℕ). Asks l b) asks.line_is other) in
    let parts = number_split (at + 1) (found.at + 1) _ _ asks.writable.0 found.small found.rest_is in
    ap₂ (λ (n : ℕ) (t : List ℕ). Add n t) (same_ordinal at found.at asks.writable.0 found.small parts.0) (encodes_same title found.title parts.1) ∙ sym found.is
asks_once line (Put k at new) b asks other =
    let found = puts (decimal (k + 1) ++ 32 ∷ (decimal at ++ 32 ∷ flat_map escaped_scalar new)) b (subst (λ (l : List ℕ). Asks l b) asks.line_is other) in
    let first = number_split (k + 1) (found.section + 1) _ _ asks.writable.0 found.small found.rest_is in
    let second = number_split at found.at _ _ asks.writable.1 found.place_small first.1 in
    ap₂ (λ (n m : ℕ). Put n m new) (same_ordinal k found.section asks.writable.0 found.small first.0) (same_number at found.at asks.writable.1 found.place_small second.0)
    ∙ ap (λ (t : List ℕ). Put found.section found.at t) (same_written new found.new second.1) ∙ sym found.is
asks_once line (Cut k at n) b asks other =
    let found = cuts (decimal (k + 1) ++ 32 ∷ (decimal at ++ 32 ∷ decimal n)) b (subst (λ (l : List ℕ). Asks l b) asks.line_is other) in
    let first = number_split (k + 1) (found.section + 1) _ _ asks.writable.0 found.small found.rest_is in
    let second = number_split at found.at _ _ asks.writable.1 found.place_small first.1 in
    ap₂ (λ (i j : ℕ). Cut i j n) (same_ordinal k found.section asks.writable.0 found.small first.0) (same_number at found.at asks.writable.1 found.place_small second.0)
    ∙ ap (λ (m : ℕ). Cut found.section found.at m) (same_number n found.count asks.writable.2 found.count_small second.1) ∙ sym found.is
asks_once line (DropSection k) b asks other =
    let found = drops (decimal (k + 1)) b (subst (λ (l : List ℕ). Asks l b) asks.line_is other) in
    ap (λ (n : ℕ). DropSection n) (same_ordinal k found.section asks.writable found.small found.rest_is) ∙ sym found.is

empty_is_none : (byte : ℕ) (rest : List ℕ) → [] ≡ byte ∷ rest → ⊥
empty_is_none byte rest e = cc

note_asks_nothing : (line : List ℕ) (command : Command) → IsNote line → Asks line command → ⊥
note_asks_nothing line command note asks = by note.begins command asks
  where
    by : ((line ≡ []) ⊎ ((rest : List ℕ) × (line ≡ 35 ∷ rest))) → (c : Command) → Asks line c → ⊥
    by (inl none) (Add at title) a = empty_is_none 97 _ (sym none ∙ a.line_is)
    by (inl none) (Put k at new) a = empty_is_none 112 _ (sym none ∙ a.line_is)
    by (inl none) (Cut k at n) a = empty_is_none 99 _ (sym none ∙ a.line_is)
    by (inl none) (DropSection k) a = empty_is_none 100 _ (sym none ∙ a.line_is)
    by (inr hash) (Add at title) a = other_head 35 97 _ _ (sym hash.1 ∙ a.line_is) refl
    by (inr hash) (Put k at new) a = other_head 35 112 _ _ (sym hash.1 ∙ a.line_is) refl
    by (inr hash) (Cut k at n) a = other_head 35 99 _ _ (sym hash.1 ∙ a.line_is) refl
    by (inr hash) (DropSection k) a = other_head 35 100 _ _ (sym hash.1 ∙ a.line_is) refl

pub lines_ask_once : AsksOnce
lines_ask_once = record { some = line_is_one; one = asks_once; note = note_asks_nothing }

does_once : (s t u : State) (line : List ℕ) (ops others : List Op) → Does s t line ops → Does s u line others → (t ≡ u) × (ops ≡ others)
does_once s t u line ops others (inl a) (inl b) = (a.1 ∙ sym b.1, a.2 ∙ sym b.2)
does_once s t u line ops others (inl a) (inr b) = absurd (note_asks_nothing line b.0 a.0 b.1)
does_once s t u line ops others (inr a) (inl b) = absurd (note_asks_nothing line a.0 b.0 a.1)
does_once s t u line ops others (inr a) (inr b) =
    let same = asks_once line a.0 b.0 a.1 b.1 in
    let made = a.2.made ∙ ap (λ (c : Command). made_by s (by_scalars s c)) same ∙ sym b.2.made in
    (a.2.gained.others ∙ ap (with_ops s) made ∙ sym b.2.gained.others, made)

leads_once : (s t u : State) (ls : List (List ℕ)) (ops others : List Op) → LinesLead s t ls ops → LinesLead s u ls others → (t ≡ u) × (ops ≡ others)
leads_once s t u [] ops others a b = (a.0 ∙ sym b.0, a.1 ∙ sym b.1)
leads_once s t u (line ∷ ls) ops others a b =
    let first = does_once s a.0 b.0 line a.1 b.1 a.3 b.3 in
    let further = leads_once a.0 t u ls a.2 b.2 a.4 (subst (λ (m : State). LinesLead m u ls b.2) (sym first.0) b.4) in
    (further.0, a.5 ∙ ap₂ ◌++◌ first.1 further.1 ∙ sym b.5)

-- a line that is not run, and why
abbrev pub IsFaulty : State → List ℕ → LineFault → Type 0
IsFaulty s line why.Bad = IsFaultyLine line
IsFaulty s line (why.Edit cause) = IsRefusedEdit s line cause

faulty_does_not : (s t : State) (line : List ℕ) (ops : List Op) (cause : LineFault) → Does s t line ops → IsFaulty s line cause → ⊥
faulty_does_not s t line ops why.Bad (inl note) bad = bad.no_note note.0
faulty_does_not s t line ops why.Bad (inr made) bad = bad.no_edit made.0 made.1
faulty_does_not s t line ops (why.Edit cause) (inl note) refused = note_asks_nothing line refused.0 note.0 refused.1
faulty_does_not s t line ops (why.Edit cause) (inr made) refused =
    none-some cause (sym made.2.allowed ∙ ap (line_refusal s) (asks_once line made.0 refused.0 made.1 refused.1) ∙ refused.2)

faulty_once : (s : State) (line : List ℕ) (a b : LineFault) → IsFaulty s line a → IsFaulty s line b → a ≡ b
faulty_once s line why.Bad why.Bad x y = refl
faulty_once s line why.Bad (why.Edit b) x y = absurd (x.no_edit y.0 y.1)
faulty_once s line (why.Edit a) why.Bad x y = absurd (y.no_edit x.0 x.1)
faulty_once s line (why.Edit a) (why.Edit b) x y =
    ap (λ (e : EditFault). why.Edit e) (same_Some a b (sym x.2 ∙ ap (line_refusal s) (asks_once line x.0 y.0 x.1 y.1) ∙ y.2))

parts_of : (x y : List ℕ) (xs ys : List (List ℕ)) → x ∷ xs ≡ y ∷ ys → (x ≡ y) × (xs ≡ ys)
parts_of x y xs ys e = (cc, cc)

-- one line is the first faulty one
first_once : (s m n : State) (front other back behind : List (List ℕ)) (line second : List ℕ) (ops others : List Op) (a b : LineFault) → LinesLead s m front ops
    → LinesLead s n other others
    → IsFaulty m line a → IsFaulty n second b → front ++ line ∷ back ≡ other ++ second ∷ behind → (m ≡ n) × (line ≡ second) × (length front ≡ length other)
first_once s m n [] [] back behind line second ops others a b x y fx fy is = (x.0 ∙ sym y.0, (parts_of line second back behind is).0, refl)
first_once s m n [] (l ∷ other) back behind line second ops others a b x y fx fy is =
    let same = (parts_of line l back (other ++ second ∷ behind) is).0 in
    absurd (faulty_does_not s y.0 l y.1 a y.3 (subst (λ (k : List ℕ). IsFaulty s k a) same (subst (λ (t : State). IsFaulty t line a) x.0 fx)))
first_once s m n (l ∷ front) [] back behind line second ops others a b x y fx fy is =
    let same = (parts_of l second (front ++ line ∷ back) behind is).0 in
    absurd (faulty_does_not s x.0 l x.1 b x.3 (subst (λ (k : List ℕ). IsFaulty s k b) (sym same) (subst (λ (t : State). IsFaulty t second b) y.0 fy)))
first_once s m n (k ∷ front) (l ∷ other) back behind line second ops others a b x y fx fy is =
    let parts = parts_of k l (front ++ line ∷ back) (other ++ second ∷ behind) is in
    let next = does_once s x.0 y.0 k x.1 y.1 x.3 (subst (λ (j : List ℕ). Does s y.0 j y.1) (sym parts.0) y.3) in
    let further = first_once x.0 m n front other back behind line second x.2 y.2 a b x.4 (subst (λ (t : State). LinesLead t n other y.2) (sym next.0) y.4) fx fy parts.1 in
    (further.0, further.1, ap suc further.2)

-- a script that is run to its end has no faulty line
none_faulty : (s t m : State) (front back : List (List ℕ)) (line : List ℕ) (ops others : List Op) (cause : LineFault) → LinesLead s t (front ++ line ∷ back) ops
    → LinesLead s m front others
    → IsFaulty m line cause → ⊥
none_faulty s t m [] back line ops others cause x y faulty = faulty_does_not s x.0 line x.1 cause x.3 (subst (λ (n : State). IsFaulty n line cause) y.0 faulty)
none_faulty s t m (l ∷ front) back line ops others cause x y faulty =
    let next = does_once s x.0 y.0 l x.1 y.1 x.3 y.3 in
    none_faulty x.0 t m front back line x.2 y.2 cause x.4 (subst (λ (n : State). LinesLead n m front y.2) (sym next.0) y.4) faulty

-- why a script stopped, told by its line
record Stopped (old new : State) (script : List ℕ) (f : ScriptFault) : Type 0 where
  line : List ℕ
  n : ℕ
  cause : LineFault
  run : RunsUpTo old new script line n
  faulty : IsFaulty new line cause
  is : f ≡ fault_at n cause

stopped : (old new : State) (script : List ℕ) (f : ScriptFault) → f ≢ fault.NoMemory → StopsAtLine old new script f → Stopped old new script f
stopped old new script (fault.BadLine n) other s = record { line = s.0; n = n; cause = why.Bad; run = s.1; faulty = s.2; is = refl }
stopped old new script (fault.NoSection n) other s = record { line = s.0; n = n; cause = why.Edit edit.NoSection; run = s.1; faulty = s.2; is = refl }
stopped old new script (fault.OutOfRange n) other s = record { line = s.0; n = n; cause = why.Edit edit.OutOfRange; run = s.1; faulty = s.2; is = refl }
stopped old new script (fault.IdsSpent c) other s = record { line = s.0; n = s.1; cause = why.Edit (edit.IdsSpent c); run = s.2; faulty = s.3; is = refl }
stopped old new script (fault.TooMany c) other s = record { line = s.0; n = s.1; cause = why.Edit (edit.TooMany c); run = s.2; faulty = s.3; is = refl }
stopped old new script fault.ReadFault other s = absurd s
stopped old new script fault.TooLong other s = absurd s
stopped old new script fault.NoMemory other s = absurd (other refl)

stops_once : (old a b : State) (script : List ℕ) (f g : ScriptFault) → f ≢ fault.NoMemory → g ≢ fault.NoMemory → StopsAtLine old a script f → StopsAtLine old b script g
    → (a ≡ b) × (f ≡ g)
stops_once old a b script f g not_f not_g at_f at_g =
    let x = stopped old a script f not_f at_f in
    let y = stopped old b script g not_g at_g in
    let same = first_once old a b x.run.front y.run.front x.run.back y.run.back x.line y.line x.run.ops y.run.ops x.cause y.cause x.run.leads y.run.leads x.faulty y.faulty
    (sym x.run.split ∙ y.run.split) in
    let numbers : x.n ≡ y.n = x.run.number_is ∙ ap (λ (k : ℕ). k + 1) same.2 ∙ sym y.run.number_is in
    let causes = faulty_once b y.line x.cause y.cause
    (subst (λ (s : State). IsFaulty s y.line x.cause) same.0 (subst (λ (l : List ℕ). IsFaulty a l x.cause) same.1 x.faulty)) y.faulty in
    (same.0, x.is ∙ ap₂ fault_at numbers causes ∙ sym y.is)

stops_or_runs : (old a b : State) (script : List ℕ) (n : ℕ) (f : ScriptFault) → f ≢ fault.NoMemory → RunsWhole old a script n → StopsAtLine old b script f → ⊥
stops_or_runs old a b script n f not_f whole at_f =
    let x = stopped old b script f not_f at_f in
    none_faulty old a b x.run.front x.run.back x.line whole.ops x.run.ops x.cause
    (subst (λ (ls : List (List ℕ)). LinesLead old a ls whole.ops) x.run.split whole.leads) x.run.leads x.faulty

whole_once : (old a b : State) (script : List ℕ) (m n : ℕ) → RunsWhole old a script m → RunsWhole old b script n → (a ≡ b) × (m ≡ n)
whole_once old a b script m n x y =
    let same = leads_once old a b (lines script) x.ops y.ops x.leads y.leads in
    (same.0, x.count ∙ ap length same.1 ∙ sym y.count)

pub scripts_run_once : RunsOnce
scripts_run_once = record { some = script_outcome; whole = whole_once; stops = stops_once; apart = stops_or_runs }
