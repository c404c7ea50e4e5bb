-- What turns do to two authors.
use Rattle.std.proofs.Common.{false, List, [], ap, append-nil, arith, inl, inr, nat_eq, refl, subst, sym, true, ◌%◌, ◌+◌, ◌-◌, ◌<◌, ◌≤◌, ◌++◌, ◌∙◌, ◌∷◌, ◌≡◌, ◌≢◌, ℕ, suc, zero}
use Rattle.std.specs.Prelude.{Err, Ok, OnOk, Result, if◌then◌else◌, length}
use Rattle.std.specs.Char.{encode_utf8}
use Rattle.std.specs.Str.{IsUtf8, chars, encode_utf8_all}
use Rattle.std.proofs.lemmas.Bool.{cases_Bool, eq-eqb, ne_eqb}
use Rattle.std.proofs.lemmas.Str.{chars-encodes, encodes_same}
use Rattle.fugue_ids.specs.declared.no_memory.NoMemory.{NoMemory as OutOfMemory}
use Rattle.fugue_ids.specs.declared.op.Op.{Op}
use Rattle.origin_model.specs.edits.Edits.{Command, Put}
use Rattle.origin_model.specs.taking.Taking.{Held, IsSettled}
use Rattle.origin_model.proofs.edits.MadeLemmas.{extended-append}
use Rattle.origin_model.specs.edits.State.{State}
use Rattle.origin_model.specs.edits.Effect.{with_ops}
use Rattle.origin_model.specs.declared.edit_fault.EditFault.{EditFault}
use Rattle.origin_model.specs.declared.edit_fault.EditFault.TheVariants.{NoMemory}
use Rattle.list_spec.specs.Calls.{IsEditCall}
use Rattle.list_spec.specs.Worlds.{Edit, Event, World, after_event, after_events, replica_after_edit, effect, pool_with}
use Rattle.list_spec.proofs.CallLemmas.{calls_are_edits}
use Rattle.bulk_world.specs.Generator.{drawn_command, next}
use Rattle.bulk_world.specs.Turns.{IsAuthor, TurnsLead, among, author, first_text, made_over, numbered_replica, turn_of, turns}

-- where memory is not wanting, the edit is that of the world, refused or not
edit_is : (command : Command) (old new : State) (result : Result ℕ EditFault) → result ≢ Err NoMemory → IsEditCall command old new result → new ≡ replica_after_edit command old
edit_is command old new result enough call =
    let is = calls_are_edits command old new result call in
    is.is ∙ ap (λ c. replica_after_edit c old) (is.whole enough)

-- the same, by what is answered of the call
pub turn_is : (command : Command) (old new : State) (made : Result ℕ EditFault) (answer : Result (Unit {0}) OutOfMemory) → OnOk answer (made ≢ Err NoMemory)
    → IsEditCall command old new made → OnOk answer (new ≡ replica_after_edit command old)
turn_is command old new made (Ok done) enough call = edit_is command old new made enough call
turn_is command old new made (Err fault) enough call = tt

-- a letter's text is the letter
pub letter_text : (ch : ℕ) (text : List ℕ) → IsUtf8 text → text ≡ encode_utf8 ch → chars text ≡ ch ∷ []
letter_text ch text utf8 is =
    let same : encode_utf8_all utf8.0 ≡ encode_utf8_all (ch ∷ []) = utf8.1.1 ∙ is ∙ sym (append-nil (encode_utf8 ch)) in
    ap chars (sym utf8.1.1) ∙ chars-encodes utf8.0 utf8.1.0 ∙ encodes_same utf8.0 (ch ∷ []) same

-- a put of a text
pub put_is : (at : ℕ) (text new : List ℕ) (old now : State) (made : Result ℕ EditFault) (answer : Result (Unit {0}) OutOfMemory) → OnOk answer (made ≢ Err NoMemory)
    → text ≡ new → IsEditCall (Put 0 at text) old now made → OnOk answer (now ≡ replica_after_edit (Put 0 at new) old)
put_is at text new old now made answer enough is call = turn_is (Put 0 at new) old now made answer enough (subst (λ t. IsEditCall (Put 0 at t) old now made) is call)

-- an author, with whatever it holds
abbrev pub numbered : ℕ → Held → State
numbered n held = record (author n) { held = held }

-- the edit that the number x asks of a replica
abbrev pub asked : ℕ → State → Command
asked x s = drawn_command x (length (first_text s))

-- the turn of the replica with the number n
abbrev pub turn_by : ℕ → World → ℕ → Event
turn_by n w x = Edit n (asked x (numbered_replica n w.replicas))

-- whose turn it is
pub odd_turn : (i : ℕ) → nat_eq (i % 2) 1 ≡ true → turn_of i ≡ 1
odd_turn i e = ap (λ b. if b then 1 else 2) e

pub even_turn : (i : ℕ) → nat_eq (i % 2) 1 ≡ false → turn_of i ≡ 2
even_turn i e = ap (λ b. if b then 1 else 2) e

-- what so many turns lead to
abbrev LeadsBy : ℕ → (count i x : ℕ) (one two one' two' : State) → Type 0
LeadsBy n count i x one two one' two' =
    (pool : List Op) → let w : World = among pool one two in
    let event = turn_by n w x in
    (after_events (after_event w event) (turns (after_event w event) count (suc i) x)).replicas ≡ one' ∷ two' ∷ []

-- a turn of either, and then the others
pub first_turn : (count i x : ℕ) (one two a b : State) → nat_eq (i % 2) 1 ≡ true → IsAuthor 1 one → IsAuthor 2 two
    → TurnsLead count (suc i) (next x) (replica_after_edit (asked (next x) one) one) two a b → TurnsLead (suc count) i x one two a b
first_turn count i x one two a b odd f s leads =
    subst (λ n. LeadsBy n count i (next x) one two a b) (sym (odd_turn i odd))
    (subst (λ t. LeadsBy 1 count i (next x) one t a b) (sym s)
    (subst (λ o. TurnsLead count (suc i) (next x) (replica_after_edit (asked (next x) o) o) (numbered 2 two.held) a b → LeadsBy 1 count i (next x) o (numbered 2 two.held) a b)
    (sym f)
    (λ l pool. l _) (subst (λ t. TurnsLead count (suc i) (next x) (replica_after_edit (asked (next x) one) one) t a b) s leads)))

pub second_turn : (count i x : ℕ) (one two a b : State) → nat_eq (i % 2) 1 ≡ false → IsAuthor 1 one → IsAuthor 2 two
    → TurnsLead count (suc i) (next x) one (replica_after_edit (asked (next x) two) two) a b → TurnsLead (suc count) i x one two a b
second_turn count i x one two a b even f s leads =
    subst (λ n. LeadsBy n count i (next x) one two a b) (sym (even_turn i even))
    (subst (λ o. LeadsBy 2 count i (next x) o two a b) (sym f)
    (subst (λ t. TurnsLead count (suc i) (next x) (numbered 1 one.held) (replica_after_edit (asked (next x) t) t) a b → LeadsBy 2 count i (next x) (numbered 1 one.held) t a b)
    (sym s)
    (λ l pool. l _) (subst (λ o. TurnsLead count (suc i) (next x) o (replica_after_edit (asked (next x) two) two) a b) f leads)))

-- an edit leaves an author an author
pub still_author : (n : ℕ) (command : Command) (s : State) → IsAuthor n s → IsAuthor n (replica_after_edit command s)
still_author n command s is = ap (λ (a : State). record a { held = (replica_after_edit command s).held }) is

-- what events leave in which authors edit: each gained what it made
pub record IsTurned (pool : List Op) (one two : State) (events : List Event) : Type 0 where
  pub pool_after : List Op
  pub one_after : Held
  pub two_after : Held
  pub is : after_events (among pool one two) events ≡ among pool_after (numbered 1 one_after) (numbered 2 two_after)
  pub one_is : numbered 1 one_after ≡ with_ops one (made_over 1 (among pool one two) events)
  pub two_is : numbered 2 two_after ≡ with_ops two (made_over 2 (among pool one two) events)

-- operations, and then more
two_steps : (s : State) (ops more : List Op) → with_ops (with_ops s ops) more ≡ with_ops s ((ops ++ []) ++ more)
two_steps s ops more =
    ap (λ h. record s { held = record { history = h; waiting = s.held.waiting } }) (sym (extended-append s.held.history ops more))
    ∙ ap (λ o. with_ops s (o ++ more)) (sym (append-nil ops))

-- turns leave that
pub turned : (count i x : ℕ) (pool : List Op) (h k : Held) → IsTurned pool (numbered 1 h) (numbered 2 k) (turns (among pool (numbered 1 h) (numbered 2 k)) count i x)
turned zero i x pool h k = record { pool_after = pool; one_after = h; two_after = k; is = refl; one_is = refl; two_is = refl }
turned (suc count) i x pool h k =
    elim (cases_Bool (nat_eq (i % 2) 1)) [
      | inl t ↦ subst Turned (sym (odd_turn i t))
          (let command = asked y one in
          let ops : List Op = effect one command in
          let rest = turned count (suc i) y (pool_with pool (ops ++ [])) (replica_after_edit command one).held k in
          record {
            pool_after = rest.pool_after;
            one_after = rest.one_after;
            two_after = rest.two_after;
            is = rest.is;
            one_is = rest.one_is ∙ two_steps one ops _;
            two_is = rest.two_is;
          })
      | inr t ↦ subst Turned (sym (even_turn i t))
          (let command = asked y two in
          let ops : List Op = effect two command in
          let rest = turned count (suc i) y (pool_with pool (ops ++ [])) h (replica_after_edit command two).held in
          record {
            pool_after = rest.pool_after;
            one_after = rest.one_after;
            two_after = rest.two_after;
            is = rest.is;
            one_is = rest.one_is;
            two_is = rest.two_is ∙ two_steps two ops _;
          })
    ]
  where
    one : State
    one = numbered 1 h

    two : State
    two = numbered 2 k

    y : ℕ
    y = next x

    Turned : ℕ → Type 0
    Turned n = let w : World = among pool one two in IsTurned pool one two (turn_by n w y ∷ turns (after_event w (turn_by n w y)) count (suc i) y)

-- as many turns
by_count : (m n i x : ℕ) (one two a b : State) → m ≡ n → TurnsLead m i x one two a b → TurnsLead n i x one two a b
by_count m n i x one two a b e leads = subst (λ k. TurnsLead k i x one two a b) e leads

-- what turns lead to
abbrev Whole : (W : State → State → Type 0) → (count done x : ℕ) → (one two : State) → Type 0
Whole W count done x one two = (a b : State) → TurnsLead (count - done) (done + 1) x one two a b → W a b

-- before the first turn, all are left
pub all_left : (count x : ℕ) (one two : State) → Whole (TurnsLead count 1 x one two) count 0 x one two
all_left count x one two a b leads = by_count (count - 0) count 1 x one two a b (omega arith) leads

-- after the last, none is
pub none_left : (W : State → State → Type 0) (count done x : ℕ) (one two : State) → count ≤ done → Whole W count done x one two → W one two
none_left W count done x one two last whole = whole one two (by_count 0 (count - done) (done + 1) x one two one two (omega (arith, last)) (λ pool. refl))

-- a turn of the first author
pub first_on : (W : State → State → Type 0) (count done x y : ℕ) (one two new : State) → done < count → nat_eq ((done + 1) % 2) 1 ≡ true → IsAuthor 1 one → IsAuthor 2 two
    → y ≡ next x → new ≡ replica_after_edit (asked y one) one → Whole W count done x one two → Whole W count (done + 1) y new two
first_on W count done x y one two new l odd f s ny nn whole a b leads =
    let c : ℕ = count - (done + 1) in
    let now : TurnsLead c (suc (done + 1)) (next x) (replica_after_edit (asked (next x) one) one) two a b =
    subst (λ z. TurnsLead c (suc (done + 1)) z (replica_after_edit (asked z one) one) two a b) ny
    (subst (λ n. TurnsLead c (suc (done + 1)) y n two a b) nn (subst (λ k. TurnsLead c k y new two a b) (omega arith) leads)) in
    whole a b (by_count (suc c) (count - done) (done + 1) x one two a b (omega (arith, l)) (first_turn c (done + 1) x one two a b odd f s now))

-- a turn of the second author
pub second_on : (W : State → State → Type 0) (count done x y : ℕ) (one two new : State) → done < count → nat_eq ((done + 1) % 2) 1 ≡ false → IsAuthor 1 one → IsAuthor 2 two
    → y ≡ next x → new ≡ replica_after_edit (asked y two) two → Whole W count done x one two → Whole W count (done + 1) y one new
second_on W count done x y one two new l even f s ny nn whole a b leads =
    let c : ℕ = count - (done + 1) in
    let now : TurnsLead c (suc (done + 1)) (next x) one (replica_after_edit (asked (next x) two) two) a b =
    subst (λ z. TurnsLead c (suc (done + 1)) z one (replica_after_edit (asked z two) two) a b) ny
    (subst (λ n. TurnsLead c (suc (done + 1)) y one n a b) nn (subst (λ k. TurnsLead c k y one new a b) (omega arith) leads)) in
    whole a b (by_count (suc c) (count - done) (done + 1) x one two a b (omega (arith, l)) (second_turn c (done + 1) x one two a b even f s now))

-- and it stays an author
pub author_on : (n : ℕ) (command : Command) (s new : State) → IsAuthor n s → new ≡ replica_after_edit command s → IsAuthor n new
author_on n command s new is e = subst (IsAuthor n) (sym e) (still_author n command s is)

-- two settled authors on the way to what all turns lead to
pub record IsUnderWay (W : State → State → Type 0) (count done x : ℕ) (one two : State) : Type 0 where
  pub leads : Whole W count done x one two
  pub first : IsAuthor 1 one
  pub second : IsAuthor 2 two
  pub first_settled : IsSettled one.held
  pub second_settled : IsSettled two.held

pub first_goes_on : (W : State → State → Type 0) (count done x y : ℕ) (one two new : State) → IsUnderWay W count done x one two → done < count → (done + 1) % 2 ≡ 1
    → y ≡ next x → new ≡ replica_after_edit (asked y one) one → IsSettled new.held → IsUnderWay W count (done + 1) y new two
first_goes_on W count done x y one two new u l odd ny nn settled =
    record {
      leads = first_on W count done x y one two new l (eq-eqb ((done + 1) % 2) 1 odd) u.first u.second ny nn u.leads;
      first = author_on 1 (asked y one) one new u.first nn;
      second = u.second;
      first_settled = settled;
      second_settled = u.second_settled;
    }

pub second_goes_on : (W : State → State → Type 0) (count done x y : ℕ) (one two new : State) → IsUnderWay W count done x one two → done < count → ((done + 1) % 2 ≡ 1 → ⊥)
    → y ≡ next x → new ≡ replica_after_edit (asked y two) two → IsSettled new.held → IsUnderWay W count (done + 1) y one new
second_goes_on W count done x y one two new u l even ny nn settled =
    record {
      leads = second_on W count done x y one two new l (ne_eqb ((done + 1) % 2) 1 even) u.first u.second ny nn u.leads;
      first = u.first;
      second = author_on 2 (asked y two) two new u.second nn;
      first_settled = u.first_settled;
      second_settled = settled;
    }
