-- Elements of a section are hidden one after another: it means what hiding each of them means.
use Rattle.std.proofs.Common.{List, ap, arith, inl, inr, refl, sym, zero, suc, ℕ, true, ◌<◌, ◌≤◌, ◌∙◌, ◌∷◌, ◌≡◌}
use Rattle.std.specs.Prelude.{Err, IfErr, IfSome, IsSome, None, Ok, OnOk, Option, Result, Some}
use Rattle.fugue_ids.specs.Identifiers.{Identifier}
use Rattle.fugue_ids.specs.Keyed.{IsReplaced}
use Rattle.fugue_ids.specs.Runs.{id_after, next_id}
use Rattle.fugue_ids.specs.declared.op.Op.{Op}
use Rattle.fugue_ids.proofs.IdentifierLemmas.{cases_id}
use Rattle.fugue_ids.proofs.RunLemmas.{none_after, one_after}
use Rattle.origin_model.specs.sides.Node.{has_node}
use Rattle.origin_model.specs.declared.operations.Place.TheVariants.{Section as within}
use Rattle.section_list.specs.SectionList.{AreAllNodes, with_hidden}
use Rattle.section_catalogue.specs.declared.tables.Section.{Section as Titled}
use Rattle.section_catalogue.specs.Changes.{AnswersUpTo, HidesRun, HidesText, IsUnchanged, section_with_run_hidden, with_hidden_text}
use Rattle.section_catalogue.specs.Contents.{Contents, entry_at, place_at, section_at}
use Rattle.section_catalogue.specs.Manuscript.{HidesAll, Represents, once_hidden}
use Rattle.section_catalogue.proofs.ConditionLemmas.{held_at}
use Rattle.section_catalogue.proofs.HidingLemmas.{stands_hidden}
use Rattle.section_catalogue.proofs.RunLemmas.{entry-other, entry-own}
use Rattle.section_catalogue.proofs.UnchangedLemmas.{still}

-- the contents with the first element hidden
with_first_hidden : Contents → Identifier → Identifier → Contents
with_first_hidden old s x = record {
  catalogue = old.catalogue;
  sections = elim (section_at old s) [ None ↦ old.sections | Some t ↦ (s, record t { text = with_hidden x t.text }) ∷ old.sections ];
  places = old.places;
}

first_hides : (old : Contents) (s x : Identifier) → HidesText old (with_first_hidden old s x) s x
unfolding with_first_hidden
first_hides old s x = record { listed = refl; sections = by_entry (section_at old s) refl; places = λ y. refl }
  where
    by_entry : (o : Option Titled) → section_at old s ≡ o
        → IsReplaced (section_at old) (entry_at (elim o [ None ↦ old.sections | Some t ↦ (s, record t { text = with_hidden x t.text }) ∷ old.sections ])) s
        (with_hidden_text x (section_at old s))
    by_entry None e = record { here = e ∙ sym (ap (with_hidden_text x) e); others = λ y d. refl }
    by_entry (Some t) e =
        let now : Titled = record t { text = with_hidden x t.text } in
        record { here = entry-own s now old.sections ∙ sym (ap (with_hidden_text x) e); others = λ y d. entry-other s now old.sections y d }

-- hiding none changes nothing
none_hidden : (x : Identifier) (o : Option Titled) → section_with_run_hidden x 0 o ≡ o
none_hidden x None = refl
none_hidden x (Some t) = refl

-- the first, and then the others
hidden_parts : (x : Identifier) (k : ℕ) (o : Option Titled) → section_with_run_hidden x (suc k) o ≡ section_with_run_hidden (next_id x) k (with_hidden_text x o)
hidden_parts x k None = refl
hidden_parts x k (Some t) = refl

nothing_hidden : (old new : Contents) (s x : Identifier) → HidesRun old new s x 0 → IsUnchanged old new
nothing_hidden old new s x c = record {
  listed = c.listed;
  sections = λ y. elim (cases_id y s) [
    | inl e ↦ ap (section_at new) e ∙ c.sections.here ∙ none_hidden x (section_at old s) ∙ ap (section_at old) (sym e)
    | inr d ↦ c.sections.others y d
  ];
  places = c.places;
}

rest_hides : (old mid new : Contents) (s x : Identifier) (k : ℕ) → HidesText old mid s x → HidesRun old new s x (suc k) → HidesRun mid new s (next_id x) k
rest_hides old mid new s x k one c = record {
  listed = c.listed ∙ sym one.listed;
  sections = record {
    here = c.sections.here ∙ hidden_parts x k (section_at old s) ∙ ap (section_with_run_hidden (next_id x) k) (sym one.sections.here);
    others = λ y d. c.sections.others y d ∙ sym (one.sections.others y d);
  };
  places = λ y. c.places y ∙ sym (one.places y);
}

-- a manuscript stands for the history with a Delete of each, once they are hidden
pub run_hidden : (k : ℕ) (old new : Contents) (s x : Identifier) → AnswersUpTo (place_at old) x k (Some (within s)) → HidesRun old new s x k → HidesAll old new x k
run_hidden zero old new s x placed c h represents = still old new (nothing_hidden old new s x c) h represents
run_hidden (suc k) old new s x placed c h represents =
    let mid : Contents = with_first_hidden old s x in
    let one : HidesText old mid s x = first_hides old s x in
    let here : place_at old x ≡ Some (within s) = ap (place_at old) (sym (none_after x)) ∙ placed 0 (omega arith) in
    let others : AnswersUpTo (place_at mid) (next_id x) k (Some (within s)) =
    λ j less. one.places (id_after (next_id x) j) ∙ ap (place_at old) (one_after x j) ∙ placed (suc j) (omega (arith, less)) in
    run_hidden k mid new s (next_id x) others (rest_hides old mid new s x k one c) (once_hidden x h) (stands_hidden old mid (within s) x here one h represents)

-- what hiding them asks of a manuscript
pub record RunHeld (m : Contents) (s x : Identifier) (k : ℕ) : Type 0 where
  pub there : IsSome (section_at m s)
  pub held : IfSome (section_at m s) (λ (t : Titled). AreAllNodes t.text.nodes x k)

pub run_held : (m : Contents) (h : List Op) (s x : Identifier) (k : ℕ) → Represents m h → 0 < k → AnswersUpTo (place_at m) x k (Some (within s)) → RunHeld m s x k
run_held m h s x k represents some placed = record {
  there = (held_at m h (within s) (id_after x 0) represents (placed 0 some)).there;
  held = each (section_at m s) (λ j less. (held_at m h (within s) (id_after x j) represents (placed j less)).held);
}
  where
    each : (o : Option Titled) → ((j : ℕ) → j < k → IfSome o (λ (t : Titled). has_node t.text.nodes (id_after x j) ≡ true))
        → IfSome o (λ (t : Titled). AreAllNodes t.text.nodes x k)
    each None f = tt
    each (Some t) f = f

-- the first of them, as many as were hidden
pub fewer_placed : (m : Contents) (s x : Identifier) (n k : ℕ) → k ≤ n → AnswersUpTo (place_at m) x n (Some (within s)) → AnswersUpTo (place_at m) x k (Some (within s))
fewer_placed m s x n k l placed j less = placed j (omega (arith, l, less))

-- what follows, however many were hidden
pub however : {T E : Type 0} (r : Result T E) (n : ℕ) (done : E → ℕ) (P : ℕ → Type 0) (Q : Type 0) → OnOk r (P n) → IfErr r (λ e. P (done e)) → IfErr r (λ e. done e < n)
    → ((k : ℕ) → k ≤ n → P k → Q) → Q
however (Ok v) n done P Q p q less f = f n (omega arith) p
however (Err e) n done P Q p q less f = f (done e) (omega (arith, less)) q

pub if_err : {T E : Type 0} {A B C : E → Type 0} (r : Result T E) → ((e : E) → A e → B e → C e) → IfErr r A → IfErr r B → IfErr r C
if_err (Ok v) f a b = b
if_err (Err e) f a b = f e a b
