-- A run comes to a manuscript: it means what its Texts would mean one after another.
use Rattle.std.proofs.Common.{List, [], ap, arith, cond, false, inl, inr, length, refl, subst, suc, sym, zero, ℕ, ◌+◌, ◌<◌, ◌∙◌, ◌∷◌, ◌≡◌, ◌≢◌, ◌≤◌, ◌⊎◌}
use Rattle.std.specs.Prelude.{IfSome, IsSome, None, Option, Some, is_some, option_map}
use Rattle.std.proofs.lemmas.Bool.{cases_Bool, true≢false}
use Rattle.fugue_ids.specs.Identifiers.{Identifier}
use Rattle.fugue_ids.specs.Keyed.{IsReplaced}
use Rattle.fugue_ids.specs.declared.limits.TheConstants.{MOST_OPERATIONS}
use Rattle.fugue_ids.specs.Runs.{id_after, in_a_row, next_id}
use Rattle.fugue_ids.specs.declared.op.Op.{Op}
use Rattle.fugue_ids.specs.declared.op.Op.TheVariants.{Text}
use Rattle.fugue_ids.proofs.IdentifierLemmas.{cases_id, id_at-other, id_at-same}
use Rattle.fugue_ids.proofs.RunLemmas.{none_after, one_after}
use Rattle.origin_model.specs.edits.Edits.{ReadyInTurn, history_with}
use Rattle.origin_model.specs.order.Laws.{IsIn}
use Rattle.origin_model.specs.operations.History.{holder, holds}
use Rattle.origin_model.specs.operations.Verdict.{Lawful}
use Rattle.origin_model.specs.sides.Node.{has_node, nodes}
use Rattle.origin_model.specs.declared.operations.node.Node.{Node}
use Rattle.origin_model.specs.declared.operations.Place.{Place}
use Rattle.origin_model.specs.declared.operations.Place.TheVariants.{Section as within}
use Rattle.origin_model.proofs.SharedLemmas.{holds-older, order_by_nodes, ready_is_new}
use Rattle.section_list.specs.SectionList.{Listing, next_node, with_element}
use Rattle.section_catalogue.specs.declared.tables.Section.{Section as Titled}
use Rattle.section_catalogue.specs.Changes.{AddsTyped, AddsText, AnswersUpTo, AnswersSame, CanFollow, IsFilled, IsUnchanged, section_with_run, section_with_text}
use Rattle.section_catalogue.specs.Contents.{Contents, entry_at, listed_count, place_at, section_at}
use Rattle.section_catalogue.specs.Manuscript.{AreReadyOn, IsReadyOn, Represents}
use Rattle.section_catalogue.specs.Place.{Lists, place_held}
use Rattle.section_catalogue.proofs.ConditionLemmas.{new_in, section_of}
use Rattle.section_catalogue.proofs.GrowthLemmas.{text_stands}
use Rattle.section_catalogue.proofs.HolderLemmas.{none_held}
use Rattle.section_catalogue.proofs.ListingLemmas.{node_alike}
use Rattle.section_catalogue.proofs.TextLemmas.{if_some}
use Rattle.section_catalogue.proofs.UnchangedLemmas.{still}

-- an identifier is one of the first from this one on, or it is not
cases_among : (y first : Identifier) (k : ℕ) → ((j : ℕ) × (j < k) × (y ≡ id_after first j)) ⊎ ((j : ℕ) → j < k → y ≢ id_after first j)
cases_among y first zero = inr (λ j less. absurd (omega (arith, less)))
cases_among y first (suc k) =
    elim (cases_id y (id_after first k)) [
      | inl e ↦ inl (k, omega arith, e)
      | inr n ↦
          elim (cases_among y first k) [
            | inl w ↦ let less : w.0 < k = w.1 in inl (w.0, omega (arith, less), w.2)
            | inr f ↦ inr (λ j less e.
                elim (cases_last j k less) [
                  | inl d ↦ n (e ∙ ap (id_after first) d)
                  | inr d ↦ f j d e
                ])
          ]
    ]
  where
    cases_last : (j k : ℕ) → j < suc k → (j ≡ k) ⊎ (j < k)
    cases_last j k less = grind (arith, less)

-- what was filled with a place and emptied again is as before
pub emptied : {X : Type 0} (old mid new : Identifier → X) (first : Identifier) (k : ℕ) (value none : X) → AnswersUpTo old first k none → IsFilled old mid first k value
    → IsFilled mid new first k none → AnswersSame old new
emptied old mid new first k value none before put gone y =
    elim (cases_among y first k) [
      | inl w ↦ ap new w.2 ∙ gone.here w.0 w.1 ∙ sym (before w.0 w.1) ∙ ap old (sym w.2)
      | inr n ↦ gone.others y n ∙ put.others y n
    ]

-- entries with one more in front
module _ {X : Type 0} (k : Identifier) (v : X) (es : List (Identifier × X)) where
  pub entry-own : entry_at ((k, v) ∷ es) k ≡ Some v
  entry-own = ap (λ b. cond b (Some v) (entry_at es k)) (id_at-same k)

  pub entry-other : (y : Identifier) → y ≢ k → entry_at ((k, v) ∷ es) y ≡ entry_at es y
  entry-other y n = ap (λ b. cond b (Some v) (entry_at es y)) (id_at-other y k (λ e. n (sym e)))

-- the first node of a run
abbrev first_node : Identifier → Option Identifier → Option Identifier → Node
first_node id left right = record { id = id; left = left; right = right }

-- the contents with the first element of a run
with_first : Contents → Identifier → Node → ℕ → Contents
with_first old s n ch = record {
  catalogue = old.catalogue;
  sections = elim (section_at old s) [ None ↦ old.sections | Some t ↦ (s, record t { text = with_element n ch t.text }) ∷ old.sections ];
  places = (n.id, within s) ∷ old.places;
}

first_adds : (old : Contents) (s : Identifier) (n : Node) (ch : ℕ) → AddsText old (with_first old s n ch) s n ch
unfolding with_first
first_adds old s n ch = record {
  listed = refl;
  sections = by_entry (section_at old s) refl;
  places = record { here = entry-own n.id (within s) old.places; others = λ y d. entry-other n.id (within s) old.places y d };
}
  where
    by_entry : (o : Option Titled) → section_at old s ≡ o
        → IsReplaced (section_at old) (entry_at (elim o [ None ↦ old.sections | Some t ↦ (s, record t { text = with_element n ch t.text }) ∷ old.sections ])) s
        (section_with_text n ch (section_at old s))
    by_entry None e = record { here = e ∙ sym (ap (section_with_text n ch) e); others = λ y d. refl }
    by_entry (Some t) e =
        let grown : Titled = record t { text = with_element n ch t.text } in
        record { here = entry-own s grown old.sections ∙ sym (ap (section_with_text n ch) e); others = λ y d. entry-other s grown old.sections y d }

-- no letter changes nothing
no_run : (n : Node) (o : Option Titled) → section_with_run n [] o ≡ o
no_run n None = refl
no_run n (Some t) = refl

-- the first letter, and then the others
run_parts : (n : Node) (ch : ℕ) (text : List ℕ) (o : Option Titled) → section_with_run n (ch ∷ text) o ≡ section_with_run (next_node n) text (section_with_text n ch o)
run_parts n ch text None = refl
run_parts n ch text (Some t) = refl

-- a run without letters
nothing_added : (old new : Contents) (s : Identifier) (n : Node) → AddsTyped old new s n [] → IsUnchanged old new
nothing_added old new s n adds = record {
  listed = adds.listed;
  sections = λ y. elim (cases_id y s) [
    | inl e ↦ ap (section_at new) e ∙ adds.sections.here ∙ no_run n (section_at old s) ∙ ap (section_at old) (sym e)
    | inr d ↦ adds.sections.others y d
  ];
  places = λ y. adds.places.others y (λ j less. absurd (omega (arith, less)));
}

-- the rest of a run comes to the contents with its first element
rest_adds : (old mid new : Contents) (s : Identifier) (n : Node) (ch : ℕ) (text : List ℕ) → AddsText old mid s n ch → AddsTyped old new s n (ch ∷ text)
    → AddsTyped mid new s (next_node n) text
rest_adds old mid new s n ch text one adds = record {
  listed = adds.listed ∙ sym one.listed;
  sections = record {
    here = adds.sections.here ∙ run_parts n ch text (section_at old s) ∙ ap (section_with_run (next_node n) text) (sym one.sections.here);
    others = λ y d. adds.sections.others y d ∙ sym (one.sections.others y d);
  };
  places = record {
    here = λ j less. ap (place_at new) (one_after n.id j) ∙ adds.places.here (suc j) (omega (arith, less));
    others = λ y d.
        elim (cases_id y n.id) [
          | inl e ↦ ap (place_at new) (e ∙ sym (none_after n.id)) ∙ adds.places.here 0 (omega arith) ∙ sym one.places.here ∙ ap (place_at mid) (sym e)
          | inr apart ↦ adds.places.others y (λ j. elim j as (λ j. j < suc (length text) → y ≢ id_after n.id j) [
            | zero ↦ λ less e. apart (e ∙ none_after n.id)
            | suc i ↦ λ less e. d i (omega (arith, less)) (e ∙ sym (one_after n.id i))
          ]) ∙ sym (one.places.others y apart)
        ];
  };
}

-- a manuscript stands for the history with a run, once its elements have come
pub run_stands : (text : List ℕ) (old new : Contents) (h : List Op) (id section : Identifier) (left right : Option Identifier) → Represents old h
    → ReadyInTurn h (in_a_row id section left right text)
    → AddsTyped old new section (first_node id left right) text → Represents new (history_with h (in_a_row id section left right text))
run_stands [] old new h id section left right s ready adds = still old new (nothing_added old new section (first_node id left right) adds) h s
run_stands (ch ∷ text) old new h id section left right s ready adds =
    let n : Node = first_node id left right in
    let mid : Contents = with_first old section n ch in
    let one : AddsText old mid section n ch = first_adds old section n ch in
    run_stands text mid new (Text id section left right ch ∷ h) (next_id id) section (Some id) right (text_stands old mid h id section left right ch s ready.0 one) ready.1
    (rest_adds old mid new section n ch text one adds)

-- none of the identifiers of a run is held before it comes
run_unheld : (text : List ℕ) (h : List Op) (id section : Identifier) (left right : Option Identifier) → ReadyInTurn h (in_a_row id section left right text) → (j : ℕ)
    → j < length text
    → holds h (id_after id j) ≡ false
run_unheld [] h id section left right ready j less = absurd (omega (arith, less))
run_unheld (ch ∷ text) h id section left right ready zero less = ap (holds h) (none_after id) ∙ ready_is_new h (Text id section left right ch) id ready.0 refl
run_unheld (ch ∷ text) h id section left right ready (suc j) less =
    let op : Op = Text id section left right ch in
    let later : holds (op ∷ h) (id_after (next_id id) j) ≡ false = run_unheld text (op ∷ h) (next_id id) section (Some id) right ready.1 j (omega (arith, less)) in
    elim (cases_Bool (holds h (id_after id (suc j)))) [
      | inl t ↦ absurd (true≢false (sym (holds-older op h (id_after id (suc j)) t) ∙ ap (holds (op ∷ h)) (sym (one_after id j)) ∙ later))
      | inr f ↦ f
    ]

-- what is not held is no node of a place that is listed
unheld_node : (p : Place) (h : List Op) (s : Listing) (x : Identifier) → Lawful h → Lists p h s → holds h x ≡ false → has_node s.nodes x ≡ false
unheld_node p h s x w l unheld =
    elim (cases_Bool (has_node s.nodes x)) [
      | inl t ↦
          let in_p : IsIn p h x = ((order_by_nodes p h w).same_members x).1 (sym (node_alike s.nodes (nodes p h) l.same_nodes x) ∙ t) in
          absurd (true≢false (sym (ap is_some in_p.held) ∙ unheld))
      | inr f ↦ f
    ]

-- what a run asks of the manuscript to which it comes
module _ (m : Contents) (h : List Op) (represents : Represents m h) (id section : Identifier) (left right : Option Identifier) (ch : ℕ) (text : List ℕ)
    (ready : ReadyInTurn h (in_a_row id section left right (ch ∷ text))) where
  abbrev first_ready : IsReadyOn m (Text id section left right ch)
  first_ready = record { history = h; represents = represents; ready = ready.0 }

  pub run_there : IsSome (section_at m section)
  run_there = section_of m id section left right ch first_ready

  pub run_unplaced : AnswersUpTo (place_at m) id (length (ch ∷ text)) None
  run_unplaced j less =
      let x : Identifier = id_after id j in
      represents.places x ∙ ap place_held (none_held (holder h x) (run_unheld (ch ∷ text) h id section left right ready j less))

  pub run_new : IfSome (section_at m section) (λ (t : Titled). CanFollow t.text.nodes (first_node id left right) (length (ch ∷ text)))
  run_new =
      if_some (section_at m section) (λ (t : Titled). Lists (within section) h t.text) (λ (t : Titled). CanFollow t.text.nodes (first_node id left right) (length (ch ∷ text)))
      (λ t l.
      let new = new_in m (Text id section left right ch) id refl first_ready (within section) t.text refl l in
      record {
        fresh = λ j less. unheld_node (within section) h t.text (id_after id j) represents.lawful l (run_unheld (ch ∷ text) h id section left right ready j less);
        left = new.left;
        right = new.right;
      })
      (represents.texts section)

-- the same of a run of any letters
pub record RunAsks (m : Contents) (n : Node) (section : Identifier) (count : ℕ) : Type 0 where
  pub there : IsSome (section_at m section)
  pub new : IfSome (section_at m section) (λ (t : Titled). CanFollow t.text.nodes n count)
  pub unplaced : AnswersUpTo (place_at m) n.id count None

pub run_asks : (m : Contents) (h : List Op) → Represents m h → (id section : Identifier) (left right : Option Identifier) (text : List ℕ) → 0 < length text
    → ReadyInTurn h (in_a_row id section left right text) → RunAsks m (first_node id left right) section (length text)
run_asks m h represents id section left right [] some ready = absurd (omega (arith, some))
run_asks m h represents id section left right (ch ∷ text) some ready = record {
  there = run_there m h represents id section left right ch text ready;
  new = run_new m h represents id section left right ch text ready;
  unplaced = run_unplaced m h represents id section left right ch text ready;
}

-- the condition, of what the manuscript keeps
pub all_ready_here : (old now : Contents) (ops : List Op) → old ≡ now → AreReadyOn now ops → AreReadyOn old ops
all_ready_here old now ops v r = record { history = r.history; represents = subst (λ m. Represents m r.history) (sym v) r.represents; ready = r.ready }

-- room in a text that may be there
pub room_in : (o : Option Titled) (n : ℕ) → listed_count (option_map (λ (e : Titled). e.text) o) + n ≤ MOST_OPERATIONS
    → IfSome o (λ (e : Titled). length e.text.cells + n ≤ MOST_OPERATIONS)
room_in None n room = tt
room_in (Some e) n room = room
