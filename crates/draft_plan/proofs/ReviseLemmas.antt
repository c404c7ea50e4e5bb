-- The text of a section, revised hunk by hunk.
use Rattle.std.proofs.Common.{List, [], ap, arith, drop, get_or, length, nat_eq, refl, subst, sym, take, ℕ, ◌+◌, ◌++◌, ◌-◌, ◌<◌, ◌≤◌, ◌∙◌, ◌∷◌, ◌≡◌}
use Rattle.std.specs.Prelude.{All, Err, IfOk, None, Ok, Option, Result, Some, option_map}
use Rattle.std.specs.Str.{IsUtf8, chars, encode_utf8_all}
use Rattle.std.proofs.lemmas.Option.{none-some, same_Some}
use lib.Utf8.{encode}
use Rattle.std.proofs.lemmas.List.{append-nil, drop_more, take_more}
use Rattle.std.proofs.lemmas.Str.{encodes-append, encodes-chars, encodes_same}
use Rattle.std.specs.List.{Contains}
use Rattle.fugue_ids.specs.Identifiers.{Identifier}
use Rattle.fugue_ids.specs.declared.op.Op.{Op}
use Rattle.fugue_ids.specs.declared.limits.TheConstants.{MOST_OPERATIONS}
use Rattle.origin_model.specs.declared.edit_fault.EditFault.{EditFault}
use Rattle.origin_model.specs.edits.Edits.{splice}
use Rattle.origin_model.specs.edits.Effect.{OfSection}
use Rattle.origin_model.specs.edits.Refusal.{section_shown}
use Rattle.origin_model.specs.edits.State.{IsSound, State}
use Rattle.origin_model.specs.operations.Verdict.{Lawful}
use Rattle.origin_model.specs.order.Printed.{text}
use Rattle.origin_model.proofs.edits.EditedTextLemmas.{text_length}
use Rattle.text_diff.specs.Hunks.{Transforms, with_hunks}
use Rattle.text_diff.specs.Kept.{KeepsLines}
use Rattle.text_diff.specs.Seams.{KeepsWords}
use Rattle.text_diff.specs.Tight.{IsTight}
use Rattle.text_diff.specs.declared.hunk.Hunk.{Hunk}
use Rattle.draft_plan.specs.Needed.{InText, MakesOnly}
use Rattle.draft_plan.specs.Revising.{AreHunksMade, IsHunkMade, IsWithinText, shown_elements}
use Rattle.draft_plan.specs.Texts.{CountsHunks, IsRevised, KeepsCommon, StayBetween, StopsEditing, size}
use Rattle.draft_plan.proofs.HunkLemmas.{AreOrdered, news_within, ordered_at, replaced_long, replaced_step}
use Rattle.draft_plan.proofs.NeededLemmas.{in_drop, in_take, only_join, only_none, only_weaker, touches_weaker}
use Rattle.draft_plan.proofs.KeptLemmas.{cut_stays, same_common, size_more, size_within, stays_more}
use Rattle.draft_plan.proofs.NewLemmas.{new_earlier}
use Rattle.draft_plan.proofs.TextLemmas.{revised_few, revised_join, revised_none, revised_stops, still_there}

same_section : (s : State) (k : ℕ) (x y : Identifier) → section_shown s k ≡ Some x → section_shown s k ≡ Some y → x ≡ y
same_section s k x y e f = same_Some x y (sym e ∙ f)

-- no hunk was made yet
pub hunks_none : (s : State) (k n : ℕ) (hs : List Hunk) (new : List ℕ) → OfSection s k (λ x. Transforms nat_eq (text s.held.history x) new hs) → drop n hs ≡ []
    → OfSection s k (λ x. AreHunksMade s s k x (drop n hs) new 0)
hunks_none s k n hs new t e = (
  t.0,
  t.1,
  subst (λ (h : List Hunk). AreHunksMade s s k t.0 h new 0) (sym e) (record {
    revised = revised_none s k t.0;
    stays = refl;
    touches = only_none (InText t.0 (shown_elements s t.0)) s;
    count = refl;
  }),
)

-- no hunk
abbrev pub no_hunk : Hunk
no_hunk = record { old_at = 0; old_len = 0; new_at = 0; new_len = 0 }

-- the hunks that are made, from one on, and the one in front of that
module _ (old mid : State) (k left made : ℕ) (hs : List Hunk) (new : List ℕ) (t : OfSection old k (λ x. Transforms nat_eq (text old.held.history x) new hs))
    (done : OfSection old k (λ x. AreHunksMade old mid k x (drop left hs) new made)) (some : 0 < left) (fits : left ≤ length hs) where
  abbrev x : Identifier
  x = done.0

  abbrev old_text : List ℕ
  old_text = text old.held.history x

  abbrev h : Hunk
  h = get_or hs (left - 1) no_hunk

  abbrev back : List Hunk
  back = drop left hs

  abbrev put : List ℕ
  put = take h.new_len (drop h.new_at new)

  split : drop (left - 1) hs ≡ h ∷ back
  split = drop_more hs (left - 1) no_hunk (omega (arith, some, fits)) ∙ ap (λ n. h ∷ drop n hs) (omega (arith, some))

  ordered : (p : ℕ) × AreOrdered old_text p (h ∷ back)
  ordered =
      let transforms : Transforms nat_eq old_text new hs =
      subst (λ (y : Identifier). Transforms nat_eq (text old.held.history y) new hs) (same_section old k t.0 x t.1 done.1) t.2 in
      ordered_at old_text new hs back (left - 1) h transforms split

  there : section_shown mid k ≡ Some x
  there = still_there old mid k x (with_hunks old_text new 0 back) made done.2.revised done.1

  -- that one lies within the text as it is
  pub next_within : IsWithinText mid k (h.old_at + h.old_len)
  next_within = (x, there, subst (λ (r : List ℕ). h.old_at + h.old_len ≤ length r) (sym done.2.revised.here) (replaced_long old_text new ordered.0 h back ordered.1))

  -- and within the new one
  pub next_news : h.new_at + h.new_len ≤ length new
  next_news = news_within (text old.held.history t.0) new hs t.2 (left - 1) no_hunk (omega (arith, some, fits))

  -- it was made too
  pub hunks_more : (now : State) (n : ℕ) → Lawful old.held.history → OfSection mid k (λ x. IsHunkMade mid now k x h new n)
      → OfSection old k (λ x. AreHunksMade old now k x (drop (left - 1) hs) new (made + n))
  hunks_more now n w next =
      let one : IsHunkMade mid now k x h new n = subst (λ (y : Identifier). IsHunkMade mid now k y h new n) (same_section mid k next.0 x next.1 there) next.2 in
      let reads : splice (text mid.held.history x) h.old_at h.old_len put ≡ with_hunks old_text new 0 (h ∷ back) =
      ap (λ r. splice r h.old_at h.old_len put) done.2.revised.here ∙ replaced_step old_text new ordered.0 h back ordered.1 in
      let same : take h.old_len (drop h.old_at (shown_elements mid x)) ≡ take h.old_len (drop h.old_at (shown_elements old x)) =
      cut_stays old.held.history old_text (shown_elements old x) (shown_elements mid x) ordered.0 h back (text_length old.held.history x w) ordered.1 done.2.stays in
      let wider : (op : Op) → InText x (take h.old_len (drop h.old_at (shown_elements mid x))) op → InText x (shown_elements old x) op =
      touches_weaker (λ s. s ≡ x) (Contains (take h.old_len (drop h.old_at (shown_elements mid x)))) ⊥ (λ s. s ≡ x) (Contains (shown_elements old x)) ⊥ (λ s e. e)
      (λ y m. in_drop (shown_elements old x) h.old_at y (in_take (drop h.old_at (shown_elements old x)) h.old_len y (subst (λ l. Contains l y) same m))) (λ n. n) in
      let more : AreHunksMade old now k x (h ∷ back) new (made + n) = record {
        revised = subst (λ (r : List ℕ). IsRevised old now k x r (made + n)) reads
            (revised_join old mid now k x (with_hunks old_text new 0 back) (splice (text mid.held.history x) h.old_at h.old_len put) made n done.2.revised one.revised);
        stays = subst (λ (ys : List Identifier). StayBetween old.held.history 0 (shown_elements old x) ys (h ∷ back)) (sym one.shows)
            (stays_more old.held.history old_text (shown_elements old x) (shown_elements mid x) one.come ordered.0 h back (text_length old.held.history x w) ordered.1 one.as_many
            (new_earlier old mid _ done.2.revised.changed.gained one.come one.fresh) done.2.stays);
        touches = only_join (InText x (shown_elements old x)) old mid now done.2.touches
            (only_weaker (InText x (take h.old_len (drop h.old_at (shown_elements mid x)))) (InText x (shown_elements old x)) mid now wider one.touches);
        count = omega (arith, done.2.count, one.count, size_more h back);
      } in
      (x, done.1, subst (λ (r : List Hunk). AreHunksMade old now k x r new (made + n)) (sym split) more)

  -- the edits stopped in it
  pub hunks_stop : (now : State) (why : EditFault) → StopsEditing mid now k why → StopsEditing old now k why
  hunks_stop now why stops = revised_stops old mid now k made x (with_hunks old_text new 0 back) why done.2.revised stops

-- so many operations there are
pub hunks_few : (old now : State) (k n : ℕ) (hs : List Hunk) (new : List ℕ) → OfSection old k (λ x. AreHunksMade old now k x hs new n) → IsSound now → n ≤ MOST_OPERATIONS
hunks_few old now k n hs new r st = revised_few old now k r.0 (with_hunks (text old.held.history r.0) new 0 hs) n r.2.revised st

pub hunk_few : (old now : State) (k n : ℕ) (h : Hunk) (new : List ℕ) → OfSection old k (λ x. IsHunkMade old now k x h new n) → IsSound now → n ≤ MOST_OPERATIONS
hunk_few old now k n h new r st =
    revised_few old now k r.0 (splice (text old.held.history r.0) h.old_at h.old_len (take h.new_len (drop h.new_at new))) n r.2.revised st

-- the text of a section that is shown
found_in : (f : Identifier → List ℕ) (o : Option Identifier) (bytes : List ℕ) → Some bytes ≡ option_map f o → (x : Identifier) × (o ≡ Some x) × (bytes ≡ f x)
found_in f None bytes e = absurd (none-some bytes (sym e))
found_in f (Some x) bytes e = (x, refl, same_Some bytes (f x) e)

pub record IsTextAt (s : State) (k : ℕ) (bytes : List ℕ) : Type 0 where
  pub section : Identifier
  pub shown : section_shown s k ≡ Some section
  pub encoded : bytes ≡ encode_utf8_all (text s.held.history section)
  pub is : text s.held.history section ≡ chars bytes

pub text_found : (s : State) (k : ℕ) (bytes : List ℕ) → IsUtf8 bytes → Some bytes ≡ option_map (λ x. encode_utf8_all (text s.held.history x)) (section_shown s k)
    → IsTextAt s k bytes
text_found s k bytes u e =
    let found = found_in (λ x. encode_utf8_all (text s.held.history x)) (section_shown s k) bytes e in
    record {
      section = found.0;
      shown = found.1;
      encoded = found.2;
      is = sym (encodes_same (chars bytes) (text s.held.history found.0) (encodes-chars bytes u ∙ found.2));
    }

-- the text of the section that is there
pub text_reads : (s : State) (k : ℕ) (bytes : List ℕ) → IsTextAt s k bytes → (x : Identifier) → section_shown s k ≡ Some x → text s.held.history x ≡ chars bytes
text_reads s k bytes t x e = ap (text s.held.history) (same_section s k x t.section e t.shown) ∙ t.is

-- hunks of that text
pub text_transforms : (s : State) (k : ℕ) (bytes new : List ℕ) (hs : List Hunk) → IsTextAt s k bytes → Transforms nat_eq (chars bytes) new hs
    → OfSection s k (λ x. Transforms nat_eq (text s.held.history x) new hs)
text_transforms s k bytes new hs t h = (t.section, t.shown, subst (λ (r : List ℕ). Transforms nat_eq r new hs) (sym t.is) h)

-- all of them were made
module _ (old now : State) (k n : ℕ) (bytes new : List ℕ) (hs : List Hunk) (t : IsTextAt old k bytes) (e : with_hunks (chars bytes) new 0 hs ≡ new)
    (r : OfSection old k (λ x. AreHunksMade old now k x hs new n)) where
  old_is : text old.held.history r.0 ≡ chars bytes
  old_is = ap (text old.held.history) (same_section old k r.0 t.section r.1 t.shown) ∙ t.is

  all_revised : IsRevised old now k r.0 new n
  all_revised = subst (λ (reads : List ℕ). IsRevised old now k r.0 reads n) (ap (λ o. with_hunks o new 0 hs) old_is ∙ e) r.2.revised

  pub text_revised : OfSection old k (λ x. IsRevised old now k x new n)
  text_revised = (r.0, r.1, all_revised)

  -- the hunks, by what both texts are
  abbrev Counts : (a b : List ℕ) → Type 0
  Counts a b = (kept : KeepsCommon old.held.history a b (shown_elements old r.0) (shown_elements now r.0)) × (n ≡ size kept.hunks)

  pub text_keeps : Transforms nat_eq (chars bytes) new hs → All (KeepsWords (chars bytes) new) hs → All (IsTight (chars bytes) new) hs → (chars bytes ≡ new → hs ≡ [])
      → KeepsLines (chars bytes) new hs → OfSection old k (λ x. CountsHunks old now x n)
  text_keeps transforms words tight unchanged lines =
      let kept : KeepsCommon old.held.history (chars bytes) new (shown_elements old r.0) (shown_elements now r.0) =
      record { hunks = hs; transforms = transforms; words = words; tight = tight; unchanged = unchanged; lines = λ other. lines; stays = r.2.stays } in (
        r.0,
        r.1,
        subst (λ (o : List ℕ). Counts o (text now.held.history r.0)) (sym old_is) (subst (Counts (chars bytes)) (sym all_revised.here) (kept, r.2.count)),
      )

  pub text_few : Transforms nat_eq (chars bytes) new hs → OfSection old k (λ x. n ≤ length (text old.held.history x) + length new)
  text_few transforms = (r.0, r.1, omega (arith, r.2.count, size_within (chars bytes) new hs transforms, ap length old_is))

pub call_revised : (old now : State) (k : ℕ) (bytes new : List ℕ) (hs : List Hunk) (result : Result ℕ EditFault) → IsTextAt old k bytes → with_hunks (chars bytes) new 0 hs ≡ new
    → IfOk result (λ n. OfSection old k (λ x. AreHunksMade old now k x hs new n)) → IfOk result (λ n. OfSection old k (λ x. IsRevised old now k x new n))
call_revised old now k bytes new hs (Ok n) t e r = text_revised old now k n bytes new hs t e r
call_revised old now k bytes new hs (Err why) t e r = tt

pub call_keeps : (old now : State) (k : ℕ) (bytes new : List ℕ) (hs : List Hunk) (result : Result ℕ EditFault) → IsTextAt old k bytes → with_hunks (chars bytes) new 0 hs ≡ new
    → Transforms nat_eq (chars bytes) new hs → All (KeepsWords (chars bytes) new) hs → All (IsTight (chars bytes) new) hs → (chars bytes ≡ new → hs ≡ [])
    → KeepsLines (chars bytes) new hs
    → IfOk result (λ n. OfSection old k (λ x. AreHunksMade old now k x hs new n)) → IfOk result (λ n. OfSection old k (λ x. CountsHunks old now x n))
call_keeps old now k bytes new hs (Ok n) t e transforms words tight unchanged lines r = text_keeps old now k n bytes new hs t e r transforms words tight unchanged lines
call_keeps old now k bytes new hs (Err why) t e transforms words tight unchanged lines r = tt

pub call_few : (old now : State) (k : ℕ) (bytes new : List ℕ) (hs : List Hunk) (result : Result ℕ EditFault) → IsTextAt old k bytes → with_hunks (chars bytes) new 0 hs ≡ new
    → Transforms nat_eq (chars bytes) new hs → IfOk result (λ n. OfSection old k (λ x. AreHunksMade old now k x hs new n))
    → IfOk result (λ n. OfSection old k (λ x. n ≤ length (text old.held.history x) + length new))
call_few old now k bytes new hs (Ok n) t e transforms r = text_few old now k n bytes new hs t e r transforms
call_few old now k bytes new hs (Err why) t e transforms r = tt

pub call_touches : (old now : State) (k : ℕ) (hs : List Hunk) (new : List ℕ) (result : Result ℕ EditFault)
    → IfOk result (λ n. OfSection old k (λ x. AreHunksMade old now k x hs new n))
    → IfOk result (λ n. OfSection old k (λ x. MakesOnly (InText x (shown_elements old x)) old now))
call_touches old now k hs new (Ok n) r = (r.0, r.1, r.2.touches)
call_touches old now k hs new (Err why) r = tt

pub none_touches : (s : State) (k : ℕ) (bytes : List ℕ) → IsTextAt s k bytes → OfSection s k (λ x. MakesOnly (InText x (shown_elements s x)) s s)
none_touches s k bytes t = (t.section, t.shown, only_none (InText t.section (shown_elements s t.section)) s)

-- the text is the same
pub text_same : (s : State) (k : ℕ) (bytes : List ℕ) → IsTextAt s k bytes → OfSection s k (λ x. IsRevised s s k x (chars bytes) 0)
text_same s k bytes t = (t.section, t.shown, subst (λ (r : List ℕ). IsRevised s s k t.section r 0) t.is (revised_none s k t.section))

pub text_kept : (s : State) (k : ℕ) (bytes : List ℕ) → IsTextAt s k bytes → OfSection s k (λ x. CountsHunks s s x 0)
text_kept s k bytes t = (t.section, t.shown, same_common s.held.history (text s.held.history t.section) (shown_elements s t.section))

pub text_none_made : (s : State) (k : ℕ) (bytes new : List ℕ) → IsTextAt s k bytes → OfSection s k (λ x. 0 ≤ length (text s.held.history x) + length new)
text_none_made s k bytes new t = (t.section, t.shown, omega arith)

-- the text is another
pub text_other : (old now : State) (k n : ℕ) (bytes new : List ℕ) → IsTextAt old k bytes → (bytes ≡ new → ⊥)
    → OfSection old k (λ x. encode_utf8_all (text old.held.history x) ≡ new → (n ≡ 0) × (now ≡ old))
text_other old now k n bytes new t other = (t.section, t.shown, λ e. absurd (other (t.encoded ∙ e)))

pub other_scalars : (bytes new : List ℕ) → IsUtf8 bytes → IsUtf8 new → (bytes ≡ new → ⊥) → chars bytes ≡ chars new → ⊥
other_scalars bytes new u v other e = other (sym (encodes-chars bytes u) ∙ ap encode_utf8_all e ∙ encodes-chars new v)

pub text_none : (f : Identifier → List ℕ) (o : Option Identifier) → None ≡ option_map f o → o ≡ None
text_none f None e = refl
text_none f (Some x) e = absurd (none-some (f x) e)

-- a text typed scalar by scalar
pub typed_more : (bytes scalars : List ℕ) (i ch : ℕ) → i < length scalars → ch ≡ get_or scalars i ch → bytes ≡ encode_utf8_all (take i scalars)
    → bytes ++ encode ch ≡ encode_utf8_all (take (i + 1) scalars)
typed_more bytes scalars i ch l is e =
    ap (λ b. b ++ encode ch) e ∙ ap (λ x. encode_utf8_all (take i scalars) ++ x) (sym (append-nil (encode ch)))
    ∙ sym (encodes-append (take i scalars) (ch ∷ [])) ∙ ap (λ x. encode_utf8_all (take i scalars ++ x ∷ [])) is ∙ ap encode_utf8_all (sym (take_more scalars i ch l))

pub typed_whole : (bytes scalars : List ℕ) → IsUtf8 bytes → bytes ≡ encode_utf8_all scalars → chars bytes ≡ scalars
typed_whole bytes scalars u e = encodes_same (chars bytes) scalars (encodes-chars bytes u ∙ e)
