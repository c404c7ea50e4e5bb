-- Cuts and puts in the text of one section, one after another.
use Rattle.std.proofs.Common.{Bool, List, [], ap, arith, cond, drop, false, length, length-append, refl, subst, suc, sym, take, true, ℕ, ◌+◌, ◌++◌, ◌≤◌, ◌∙◌, ◌∷◌, ◌≡◌}
use Rattle.std.specs.Prelude.{All, Option, Some, None, Ok, Err, slice_get}
use Rattle.std.proofs.Math.Seq.{drop-append_seam, take-append_seam}
use Rattle.std.proofs.lemmas.Bool.{le-ltb}
use Rattle.std.proofs.lemmas.List.{append-nil, length-drop, length-reverse, length-take-le}
use Rattle.std.proofs.lemmas.List.Elements.{All-append, All-cons, All-nil}
use Rattle.std.proofs.lemmas.Option.{none-some, same_Some}
use Rattle.fugue_ids.specs.Identifiers.{Identifier}
use Rattle.fugue_ids.specs.declared.limits.TheConstants.{MOST_OPERATIONS}
use Rattle.fugue_ids.specs.declared.op.Op.{Op}
use Rattle.origin_model.specs.declared.edit_fault.EditFault.{EditFault}
use Rattle.origin_model.specs.declared.edit_fault.EditFault.TheVariants.{IdsSpent, NoMemory, OutOfRange, TooMany}
use Rattle.origin_model.specs.declared.operations.Place.TheVariants.{Section as within}
use Rattle.origin_model.specs.edits.Edits.{Command, Cut, Put, history_with, splice, typed_ids}
use Rattle.origin_model.specs.edits.Effect.{IsMade, LeavesUnmade, OfSection}
use Rattle.origin_model.specs.edits.Refusal.{RefusesExactly, in_range, in_section, made_by, next_of_own, put_ids, refusal_message, refused_elements, refused_ops, section_shown}
use Rattle.origin_model.specs.edits.Refusal.{shown_count}
use Rattle.origin_model.specs.edits.State.{IsSound, State}
use Rattle.origin_model.specs.operations.History.{accepted}
use Rattle.origin_model.specs.operations.Verdict.{Lawful}
use Rattle.origin_model.specs.order.Order.{order}
use Rattle.origin_model.specs.order.Printed.{shown, text}
use Rattle.origin_model.proofs.edits.AllowedLemmas.{allowed}
use Rattle.origin_model.proofs.edits.CutLemmas.{cut_takes}
use Rattle.origin_model.proofs.edits.EditedTextLemmas.{cut_erases, other_place, put_writes, text_length}
use Rattle.origin_model.proofs.edits.PutLemmas.{put_lands}
use Rattle.origin_model.proofs.edits.RefusalLemmas.{cut_count, put_count}
use Rattle.text_diff.specs.declared.hunk.Hunk.{Hunk}
use Rattle.draft_plan.specs.Changes.{Edit, all_made}
use Rattle.draft_plan.specs.Needed.{InText, MakesOnly}
use Rattle.draft_plan.specs.Revising.{IsHunkMade, IsLimit, IsWithinText, shown_elements}
use Rattle.draft_plan.specs.Texts.{EditsText, IsRevised, KeepsArrangement, StopsEditing}
use Rattle.draft_plan.specs.declared.fault.ReviseFault.TheVariants as revise_fault
use Rattle.draft_plan.proofs.ArrangementLemmas.{cut_keeps, put_keeps}
use Rattle.draft_plan.proofs.NewLemmas.{new_earlier, put_new}
use Rattle.draft_plan.proofs.NeededLemmas.{cut_in_text, only_join, put_in_text}
use Rattle.draft_plan.proofs.OrderedLemmas.{put_orders}
use Rattle.draft_plan.proofs.ChangeLemmas.{changed_edit, changed_join, changed_none, count_join, count_one, stops_after, stops_edit, stops_first}
use Rattle.draft_plan.proofs.ShapeLemmas.{history_is}

-- an edit of the section alone
one_edit : (k : ℕ) (command : Command) → EditsText k (Edit command) → All (EditsText k) (Edit command ∷ [])
one_edit k command e = All-cons (EditsText k) (Edit command) [] e (All-nil (EditsText k))

-- a cut that was made
module _ (old new : State) (k at n count : ℕ) (x : Identifier) (w : Lawful old.held.history) (e : section_shown old k ≡ Some x)
    (exact : RefusesExactly old (Cut k at n) (Ok count)) (made : IsMade old new (Cut k at n) count) where
  cut_is : new.held.history ≡ history_with old.held.history (made_by old (Cut k at n))
  cut_is = history_is old new (made_by old (Cut k at n)) made.gained

  pub cut_shows : shown_elements new x ≡ splice (shown_elements old x) at n []
  cut_shows = ap (shown (within x)) cut_is ∙ (cut_takes old.number old.held.history old.held.waiting k at n x w e).0.here

  pub cut_touches : MakesOnly (InText x (take n (drop at (shown_elements old x)))) old new
  cut_touches = (made_by old (Cut k at n), made.gained, cut_in_text old.number old.held.history old.held.waiting k at n x e)

  pub cut_revised : IsRevised old new k x (splice (text old.held.history x) at n []) count
  cut_revised =
      let edit = cut_erases old.number old.held.history old.held.waiting k at n x w e in
      record {
        changes = Edit (Cut k at n) ∷ [];
        edits = one_edit k (Cut k at n) refl;
        changed = changed_edit old new (Cut k at n) count exact made;
        count = made.count ∙ sym (count_one old (Edit (Cut k at n)));
        here = ap (λ g. text g x) cut_is ∙ edit.here;
        elsewhere = λ t d. ap (λ g. text g t) cut_is ∙ edit.elsewhere t d;
        others = λ t d. ap (shown (within t)) cut_is
            ∙ (cut_takes old.number old.held.history old.held.waiting k at n x w e).0.elsewhere (within t) (other_place t x d);
        ordered = λ t d. ap (order (within t)) cut_is ∙ (cut_takes old.number old.held.history old.held.waiting k at n x w e).1 (within t);
        keeps = subst (KeepsArrangement old.held.history) (sym cut_is) (cut_keeps old.number old.held.history old.held.waiting k at n x w e);
      }

-- a put that was made in a text
module _ (old new : State) (k at count : ℕ) (chs : List ℕ) (x : Identifier) (w : Lawful old.held.history) (e : section_shown old k ≡ Some x)
    (within_text : at ≤ length (shown_elements old x))
    (exact : RefusesExactly old (Put k at chs) (Ok count)) (made : IsMade old new (Put k at chs) count) where
  put_is : new.held.history ≡ history_with old.held.history (made_by old (Put k at chs))
  put_is = history_is old new (made_by old (Put k at chs)) made.gained

  pub put_shows : shown_elements new x ≡ splice (shown_elements old x) at 0 (put_ids old chs)
  put_shows = ap (shown (within x)) put_is ∙ (put_lands old.number old.held.history old.held.waiting k at chs x w e within_text).0.here

  pub put_touches : (xs : List Identifier) → MakesOnly (InText x xs) old new
  put_touches xs = (made_by old (Put k at chs), made.gained, put_in_text old.number old.held.history old.held.waiting k at chs x xs e)

  pub put_revised : IsRevised old new k x (splice (text old.held.history x) at 0 chs) count
  put_revised =
      let edit = put_writes old.number old.held.history old.held.waiting k at chs x w e within_text in
      record {
        changes = Edit (Put k at chs) ∷ [];
        edits = one_edit k (Put k at chs) refl;
        changed = changed_edit old new (Put k at chs) count exact made;
        count = made.count ∙ sym (count_one old (Edit (Put k at chs)));
        here = ap (λ g. text g x) put_is ∙ edit.here;
        elsewhere = λ t d. ap (λ g. text g t) put_is ∙ edit.elsewhere t d;
        others = λ t d. ap (shown (within t)) put_is
            ∙ (put_lands old.number old.held.history old.held.waiting k at chs x w e within_text).0.elsewhere (within t) (other_place t x d);
        ordered = λ t d. ap (order (within t)) put_is ∙ put_orders old.number old.held.history old.held.waiting k at chs x t e d;
        keeps = subst (KeepsArrangement old.held.history) (sym put_is) (put_keeps old.number old.held.history old.held.waiting k at chs x w e within_text);
      }

keeps_join : (a b c : List Op) → KeepsArrangement a b → KeepsArrangement b c → KeepsArrangement a c
keeps_join a b c first next = record {
  sections = next.sections ∙ first.sections;
  arranged_as = next.arranged_as ∙ first.arranged_as;
  headings = λ t. next.headings t ∙ first.headings t;
  retitled = next.retitled ∙ first.retitled;
  stamps = next.stamps ∙ first.stamps;
  moved = next.moved ∙ first.moved;
  arranges = λ x k. next.arranges x (first.arranges x k);
}

pub revised_join : (old mid new : State) (k : ℕ) (x : Identifier) (a b : List ℕ) (n m : ℕ) → IsRevised old mid k x a n → IsRevised mid new k x b m → IsRevised old new k x b (n + m)
revised_join old mid new k x a b n m first next = record {
  changes = first.changes ++ next.changes;
  edits = All-append (EditsText k) first.changes next.changes first.edits next.edits;
  changed = changed_join old mid new first.changes next.changes first.changed next.changed;
  count = omega (arith, first.count, next.count, count_join old mid first.changes next.changes first.changed);
  here = next.here;
  elsewhere = λ t d. next.elsewhere t d ∙ first.elsewhere t d;
  others = λ t d. next.others t d ∙ first.others t d;
  ordered = λ t d. next.ordered t d ∙ first.ordered t d;
  keeps = keeps_join old.held.history mid.held.history new.held.history first.keeps next.keeps;
}

-- nothing was made yet
pub revised_none : (s : State) (k : ℕ) (x : Identifier) → IsRevised s s k x (text s.held.history x) 0
revised_none s k x = record {
  changes = [];
  edits = All-nil (EditsText k);
  changed = changed_none s;
  count = refl;
  here = refl;
  elsewhere = λ t d. refl;
  others = λ t d. refl;
  ordered = λ t d. refl;
  keeps = record { sections = refl; arranged_as = refl; headings = λ t. refl; retitled = refl; stamps = refl; moved = refl; arranges = λ x k. k };
}

-- so many operations there are
pub revised_few : (old new : State) (k : ℕ) (x : Identifier) (r : List ℕ) (n : ℕ) → IsRevised old new k x r n → IsSound new → n ≤ MOST_OPERATIONS
revised_few old new k x r n i st =
    let ops : List Op = all_made old i.changes in
    let long : length (accepted new.held.history) ≡ length (accepted old.held.history) + length ops =
    ap length i.changed.gained.accepted_are ∙ length-append (accepted old.held.history) ops in
    omega (arith, long, i.count, length-reverse new.held.history, st.few, st.most_within.1)

-- what was cut and what was put in its place
spliced_again : {X : Type 0} (xs new : List X) (at n : ℕ) → at ≤ length xs → splice (splice xs at n []) at 0 new ≡ splice xs at n new
spliced_again {X} xs new at n h =
    let front : List X = take at xs in
    let rest : List X = drop (at + n) xs in
    let once : splice xs at n [] ≡ front ++ rest = ap (λ l. l ++ rest) (append-nil front) in
    let long : at ≡ length front = sym (length-take-le at xs h) in
    let past : at + 0 ≡ length front = omega (arith, long) in
    let before : take at (splice xs at n []) ≡ front = (λ j. take (long j) (once j)) ∙ take-append_seam front rest in
    let behind : drop (at + 0) (splice xs at n []) ≡ rest = (λ j. drop (past j) (once j)) ∙ drop-append_seam front rest in
    λ j. before j ++ new ++ behind j

-- a text is as long as before the cut up to there
still_within : {X : Type 0} (xs : List X) (at n : ℕ) → at ≤ length xs → at ≤ length (splice xs at n [])
still_within {X} xs at n h =
    let front : List X = take at xs in
    let rest : List X = drop (at + n) xs in
    let none : List X = [] in
    omega (arith, length-take-le at xs h, length-append (front ++ none) rest, length-append front none)

-- a section in which a cut was made, and then a put at the same position
pub record IsCutAndPut (old mid new : State) (k at n cut put : ℕ) (chs : List ℕ) : Type 0 where
  pub lawful : Lawful old.held.history
  pub then_lawful : Lawful mid.held.history
  pub cuts : RefusesExactly old (Cut k at n) (Ok cut)
  pub cut_made : IsMade old mid (Cut k at n) cut
  pub puts : RefusesExactly mid (Put k at chs) (Ok put)
  pub put_made : IsMade mid new (Put k at chs) put

pub cut_and_put : {old mid new : State} {k at n cut put : ℕ} {chs : List ℕ} → Lawful old.held.history → Lawful mid.held.history
    → RefusesExactly old (Cut k at n) (Ok cut) → IsMade old mid (Cut k at n) cut → RefusesExactly mid (Put k at chs) (Ok put) → IsMade mid new (Put k at chs) put
    → IsCutAndPut old mid new k at n cut put chs
cut_and_put w v cuts cut_made puts put_made =
    record { lawful = w; then_lawful = v; cuts = cuts; cut_made = cut_made; puts = puts; put_made = put_made }

-- what lies within a text lies within what is shown
in_elements : (s : State) (x : Identifier) (end : ℕ) → Lawful s.held.history → end ≤ length (text s.held.history x) → end ≤ length (shown_elements s x)
in_elements s x end w l = omega (arith, l, text_length s.held.history x w)

pub still_there : (old mid : State) (k : ℕ) (x : Identifier) (r : List ℕ) (n : ℕ) → IsRevised old mid k x r n → section_shown old k ≡ Some x → section_shown mid k ≡ Some x
still_there old mid k x r n i e = ap (λ xs. slice_get xs k) i.keeps.sections ∙ e

-- as many identifiers are typed as letters
typed_long : (replica c : ℕ) (chs : List ℕ) → length (typed_ids replica c chs) ≡ length chs
typed_long replica c [] = refl
typed_long replica c (ch ∷ chs) = ap suc (typed_long replica (suc c) chs)

pub hunk_made : (old mid new : State) (k cut put : ℕ) (h : Hunk) (scalars chs : List ℕ) → IsWithinText old k (h.old_at + h.old_len) → h.new_at + h.new_len ≤ length scalars
    → chs ≡ take h.new_len (drop h.new_at scalars)
    → IsCutAndPut old mid new k h.old_at h.old_len cut put chs → OfSection old k (λ x. IsHunkMade old new k x h scalars (cut + put))
hunk_made old mid new k cut put h scalars chs l m is i =
    let at : ℕ = h.old_at in
    let n : ℕ = h.old_len in
    let x : Identifier = l.0 in
    let e : section_shown old k ≡ Some x = l.1 in
    let old_text : List ℕ = text old.held.history x in
    let whole : at ≤ length old_text = omega (arith, l.2) in
    let here : at ≤ length (shown_elements old x) = in_elements old x at i.lawful whole in
    let first = cut_revised old mid k at n cut x i.lawful e i.cuts i.cut_made in
    let left = cut_shows old mid k at n cut x i.lawful e i.cuts i.cut_made in
    let there : section_shown mid k ≡ Some x = still_there old mid k x (splice old_text at n []) cut first e in
    let still : at ≤ length (shown_elements mid x) = subst (λ (xs : List Identifier). at ≤ length xs) (sym left) (still_within (shown_elements old x) at n here) in
    let next = put_revised mid new k at put chs x i.then_lawful there still i.puts i.put_made in
    let come : List Identifier = put_ids mid chs in
    let long : length chs ≡ h.new_len = ap length is ∙ length-take-le h.new_len (drop h.new_at scalars) (omega (arith, m, length-drop h.new_at scalars)) in
    let reads : splice (text mid.held.history x) at 0 chs ≡ splice old_text at n (take h.new_len (drop h.new_at scalars)) =
    ap (λ t. splice t at 0 chs) first.here ∙ spliced_again old_text chs at n whole ∙ ap (splice old_text at n) is in (
      x,
      e,
      record {
        come = come;
        as_many = typed_long mid.number (next_of_own mid) chs ∙ long;
        fresh = new_earlier old mid _ first.changed.gained come (put_new mid chs);
        count = omega (
          arith,
          i.cut_made.count,
          i.put_made.count,
          cut_count old k at n (allowed old (Cut k at n) cut i.cuts),
          put_count mid k at chs (allowed mid (Put k at chs) put i.puts),
          long,
        );
        touches = only_join (InText x (take n (drop at (shown_elements old x)))) old mid new (cut_touches old mid k at n cut x i.lawful e i.cuts i.cut_made)
            (put_touches mid new k at put chs x i.then_lawful there still i.puts i.put_made (take n (drop at (shown_elements old x))));
        shows = put_shows mid new k at put chs x i.then_lawful there still i.puts i.put_made ∙ ap (λ xs. splice xs at 0 come) left
            ∙ spliced_again (shown_elements old x) come at n here;
        revised = subst (λ r. IsRevised old new k x r (cut + put)) reads
            (revised_join old mid new k x (splice old_text at n []) (splice (text mid.held.history x) at 0 chs) cut put first next);
      },
    )

-- the cut of a hunk was refused, or stopped
pub cut_stops : (old new : State) (k at n : ℕ) (why : EditFault) → LeavesUnmade old new (Cut k at n) why → RefusesExactly old (Cut k at n) (Err why) → StopsEditing old new k why
cut_stops old new k at n why left exact = stops_edit (EditsText k) old new (Cut k at n) why refl left exact

-- the put after it
pub put_stops : (old mid new : State) (k at n cut : ℕ) (chs : List ℕ) (why : EditFault) → RefusesExactly old (Cut k at n) (Ok cut) → IsMade old mid (Cut k at n) cut
    → LeavesUnmade mid new (Put k at chs) why → RefusesExactly mid (Put k at chs) (Err why) → StopsEditing old new k why
put_stops old mid new k at n cut chs why cuts made left exact =
    stops_after (EditsText k) old mid new (Edit (Cut k at n) ∷ []) (revise_fault.Edit why) (one_edit k (Cut k at n) refl) (changed_edit old mid (Cut k at n) cut cuts made)
    (stops_edit (EditsText k) mid new (Put k at chs) why refl left exact)

-- what is there is refused only where a limit is met
limit_ops : (b : Bool) (held : ℕ) (why : EditFault) → cond b (Some (TooMany held)) None ≡ Some why → IsLimit why
limit_ops true held why e = subst IsLimit (same_Some (TooMany held) why e) tt
limit_ops false held why e = absurd (none-some why e)

limit_elements : (b : Bool) (n : ℕ) (other : Option EditFault) (why : EditFault) → (other ≡ Some why → IsLimit why) → cond b (Some (IdsSpent n)) other ≡ Some why → IsLimit why
limit_elements true n other why k e = subst IsLimit (same_Some (IdsSpent n) why e) tt
limit_elements false n other why k e = k e

-- the first cause, where there is the section and the position
first_cause : (s : State) (k position : ℕ) (x : Identifier) (causes : Identifier → Option EditFault) (why : EditFault) → section_shown s k ≡ Some x
    → position ≤ length (shown_elements s x)
    → in_section (section_shown s k) (λ y. in_range position (shown_count s (within y)) (causes y)) ≡ Some why → causes x ≡ Some why
first_cause s k position x causes why e l refused =
    let found = ap (λ o. in_section o (λ y. in_range position (shown_count s (within y)) (causes y))) e in
    let fits = ap (λ b. cond b (Some OutOfRange) (causes x)) (le-ltb (shown_count s (within x)) position l) in
    sym fits ∙ sym found ∙ refused

by_cause : (s : State) (command : Command) (why : EditFault) → RefusesExactly s command (Err why) → ((f : EditFault) → refusal_message s command ≡ Some f → IsLimit f) → IsLimit why
by_cause s command NoMemory exact limit = tt
by_cause s command why exact limit = limit why ((exact why (λ e. cc e)).0 refl)

pub cut_limit : (s : State) (k at n : ℕ) (why : EditFault) → Lawful s.held.history → IsWithinText s k (at + n) → RefusesExactly s (Cut k at n) (Err why) → IsLimit why
cut_limit s k at n why w l exact =
    by_cause s (Cut k at n) why exact
    (λ f refused. limit_ops _ _ f (first_cause s k (at + n) l.0 (λ y. refused_ops s n) f l.1 (in_elements s l.0 (at + n) w l.2) refused))

put_limit : (s : State) (k at : ℕ) (chs : List ℕ) (x : Identifier) (why : EditFault) → section_shown s k ≡ Some x → at ≤ length (shown_elements s x)
    → RefusesExactly s (Put k at chs) (Err why) → IsLimit why
put_limit s k at chs x why e l exact =
    by_cause s (Put k at chs) why exact
    (λ f refused. limit_elements _ _ (refused_ops s (length chs)) f (limit_ops _ _ f) (first_cause s k at x (λ y. refused_elements s (length chs)) f e l refused))

-- so is the put after a cut
pub put_after_limit : (old mid : State) (k at n cut : ℕ) (chs : List ℕ) (why : EditFault) → Lawful old.held.history → IsWithinText old k (at + n)
    → RefusesExactly old (Cut k at n) (Ok cut) → IsMade old mid (Cut k at n) cut → RefusesExactly mid (Put k at chs) (Err why) → IsLimit why
put_after_limit old mid k at n cut chs why w l cuts made exact =
    let x : Identifier = l.0 in
    let whole : at ≤ length (text old.held.history x) = omega (arith, l.2) in
    let first = cut_revised old mid k at n cut x w l.1 cuts made in
    let still : at ≤ length (shown_elements mid x) =
    subst (λ (xs : List Identifier). at ≤ length xs) (sym (cut_shows old mid k at n cut x w l.1 cuts made))
    (still_within (shown_elements old x) at n (in_elements old x at w whole)) in
    put_limit mid k at chs x why (still_there old mid k x (splice (text old.held.history x) at n []) cut first l.1) still exact

-- hunks were made, and then the edits stopped
pub revised_stops : (old mid new : State) (k n : ℕ) (x : Identifier) (r : List ℕ) (why : EditFault) → IsRevised old mid k x r n → StopsEditing mid new k why
    → StopsEditing old new k why
revised_stops old mid new k n x r why i stops = stops_after (EditsText k) old mid new i.changes (revise_fault.Edit why) i.edits i.changed stops

-- memory ran out before anything was made
pub wanting_first : (s : State) (k : ℕ) → StopsEditing s s k NoMemory
wanting_first s k = stops_first (EditsText k) s
