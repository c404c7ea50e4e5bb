-- A comment that is made is one of its section's, and its span is the scalars of its clusters; and when there is none.
use Rattle.margin_notes.proofs.Words.{All-cons, All-nil, AllPairs, Identifier, IsIn, Lawful, List, None, Note, Op, Option, Some, [], ap, arith, before, false, drop, holds, id_eq}
use Rattle.margin_notes.proofs.Words.{if◌then◌else◌, inl, inr, is_hidden, length, not, option_map, order, or_right, refl, shown, slice_get, subst, suc, sym, take, true, zero, ℕ}
use Rattle.margin_notes.proofs.Words.{◌&&◌, ◌+◌, ◌-◌, ◌<◌, ◌||◌, ◌∙◌, ◌∷◌, ◌≡◌, ◌≤◌, within}
use Rattle.std.specs.Prelude.{◌↔◌, IfErr, IfOk, IfSome, IsNone, IsSome, Result, ok_or, option_and_then, encode_utf8_all}
use Rattle.std.specs.List.{Contains}
use Rattle.std.specs.Str.{IsUtf8}
unfoldable use Rattle.std.specs.Str.{chars}
use Rattle.std.proofs.lemmas.Bool.{cases_lt}
use Rattle.std.proofs.lemmas.List.Kept.{AllPairs-filter}
use Rattle.std.proofs.lemmas.List.Sums.{sum_by-cons}
use Rattle.std.proofs.lemmas.Option.{same_Some}
use Rattle.std.proofs.lemmas.Str.{IsUtf8-between, encodes-chars, encodes_same}
use Rattle.unicode_segmentation.specs.Grapheme.{is_grapheme_break}
unfoldable use Rattle.unicode_segmentation.specs.Segments.{segments, with_offsets}
use Rattle.unicode_segmentation.proofs.SegmentsLemmas.{AllPieces, IsPieceOf-slice_get, segments_nonempty}
use Rattle.fugue_ids.proofs.IdentifierLemmas.{eq-id_eq}
use Rattle.fugue_ids.proofs.ListLemmas.{contains_here}
use Rattle.origin_model.specs.edits.Edits.{id_at}
use Rattle.origin_model.specs.edits.Effect.{with_ops}
use Rattle.origin_model.specs.edits.Noting.{AreHeld, IsNoted, ShowsAsBefore, note_by}
use Rattle.origin_model.specs.edits.Refusal.{next_of_own, section_shown}
use Rattle.origin_model.specs.edits.State.{IsSound, State}
use Rattle.origin_model.specs.operations.History.{stands_at}
use Rattle.origin_model.specs.order.Laws.{IsTotal}
use Rattle.origin_model.specs.order.Printed.{text}
use Rattle.origin_model.proofs.SharedLemmas.{IsIn-held, element_stands, not_hidden_before, order_total, place_stands, when_ready}
use Rattle.origin_model.proofs.edits.EditedTextLemmas.{text_length}
use Rattle.origin_model.proofs.edits.PutLemmas.{shown_in}
use Rattle.cluster_text.specs.Clusters.{clusters, scalars, span as scalar_range}
use Rattle.margin_notes.specs.declared.commenting.CommentFault.{CommentFault}
use Rattle.margin_notes.specs.declared.commenting.CommentFault.TheVariants.{OutOfRange}
use Rattle.margin_notes.specs.declared.limits.TheConstants.{COMMENT_CODE}
use Rattle.margin_notes.specs.Commenting.{HasNoRange, IsCommentMade, IsCommented, IsRange, NamesPassage, range_of, shown_element}
use Rattle.margin_notes.specs.Comments.{Comment, comments_in, is_text, is_text_of}
use Rattle.margin_notes.specs.Margins.{margin_span}
use Rattle.margin_notes.proofs.CountLemmas.{count_at, ordered_at, up_to}
use Rattle.margin_notes.proofs.MemberLemmas.{to_comments}
use Rattle.origin_model.proofs.edits.SplitLemmas.{get_in}
use Rattle.fugue_ids.proofs.OptionLemmas.{some_is_none}

-- what stands in a list
get_some : {X : Type 0} → (xs : List X) (i : ℕ) → i < length xs → (x : X) × (slice_get xs i ≡ Some x)
get_some [] i l = absurd (omega (arith, l))
get_some (x ∷ xs) zero l = (x, refl)
get_some (x ∷ xs) (suc i) l = get_some xs i (omega (arith, l))

-- a piece of a text is not empty
piece_some : (ps : List (List ℕ)) (i : ℕ) (p : List ℕ) → AllPieces (λ q. 0 < length q) ps → slice_get ps i ≡ Some p → 0 < length p
piece_some [] i p a e = cc
piece_some (q ∷ ps) zero p a e = let d : q ≡ p = cc in subst (λ z. 0 < length z) d a.0
piece_some (q ∷ ps) (suc i) p a e = piece_some ps i p a.1 e

-- it has its place
piece_at : (n : ℕ) (ps : List (List ℕ)) (i : ℕ) (p : List ℕ) → slice_get ps i ≡ Some p → (at : ℕ) × (slice_get (with_offsets n ps) i ≡ Some (at, p))
unfolding with_offsets
piece_at n [] i p e = cc
piece_at n (q ∷ ps) zero p e = (n, ap (λ (o : Option (List ℕ)). option_map (λ z. (n, z)) o) e)
piece_at n (q ∷ ps) (suc i) p e = piece_at (n + length q) ps i p e

-- bytes of UTF-8 that are not none are scalars that are not none
some_scalar : (p : List ℕ) → IsUtf8 p → 0 < length p → 0 < length (chars p)
some_scalar p u l = by (chars p) (encodes-chars p u)
  where
    by : (cs : List ℕ) → encode_utf8_all cs ≡ p → 0 < length cs
    by [] e = absurd (omega (arith, l, ap length e))
    by (c ∷ cs) e = omega arith

-- some clusters have as many scalars as the first of them, or more
first_of : (ps : List (List ℕ)) (i m : ℕ) (p : List ℕ) → slice_get ps i ≡ Some p → length (chars p) ≤ scalars (take (suc m) (drop i ps))
first_of [] i m p e = cc
first_of (q ∷ ps) zero m p e =
    let d : q ≡ p = cc in
    omega (arith, sum_by-cons (λ (z : List ℕ). length (chars z)) q (take m ps), ap (λ (z : List ℕ). length (chars z)) d)
first_of (q ∷ ps) (suc i) m p e = first_of ps i m p e

-- so clusters are not without scalars
some_scalars : (bytes : List ℕ) (at n : ℕ) → IsUtf8 bytes → at + n ≤ length (clusters bytes) → 0 < n → 0 < (scalar_range (clusters bytes) at n).1
some_scalars bytes at zero u l k = absurd (omega (arith, k))
some_scalars bytes at (suc m) u l k =
    let ps : List (List ℕ) = clusters bytes in
    let f = get_some ps at (omega (arith, l)) in
    let o = piece_at 0 ps at f.0 f.1 in
    let i = IsPieceOf-slice_get (is_grapheme_break true) bytes at (o.0, f.0) u o.1 in
    let utf8 : IsUtf8 f.0 = subst IsUtf8 (sym i.bytes) (IsUtf8-between bytes o.0 (o.0 + length f.0) u (omega arith) i.start i.end) in
    omega (arith, some_scalar f.0 utf8 (piece_some ps at f.0 (segments_nonempty (is_grapheme_break true) bytes) f.1), first_of ps at m f.0 f.1)

-- where a text was found, there is the section
pub text_there : (found : Option Identifier) (written : Identifier → List ℕ) (bytes : List ℕ) → Some bytes ≡ option_map written found
    → (x : Identifier) × (found ≡ Some x) × (bytes ≡ written x)
text_there None written bytes e = cc
text_there (Some x) written bytes e = (x, refl, same_Some bytes (written x) e)

-- the range of the clusters that were found
pub range_found : (s : State) (k at n : ℕ) (bytes : List ℕ) (x : Identifier) (r : Option (ℕ × ℕ)) (result : Result (ℕ × ℕ) CommentFault) (fault : CommentFault)
    → result ≡ ok_or r fault
    → section_shown s k ≡ Some x → bytes ≡ encode_utf8_all (text s.held.history x) → IsUtf8 bytes → Lawful s.held.history
    → IfSome r (λ found. found ≡ scalar_range (clusters bytes) at n) → (IsNone r ↔ (length (clusters bytes) < at + n))
    → IfSome r (λ found. found.0 + found.1 ≤ length (chars bytes))
    → IfOk result (IsRange s k at n)
range_found s k at n bytes x None result fault is shown bytes_are utf8 lawful spans none within_text =
    subst (λ (q : Result (ℕ × ℕ) CommentFault). IfOk q (IsRange s k at n)) (sym is) tt
range_found s k at n bytes x (Some found) result fault is shown bytes_are utf8 lawful spans none within_text =
    let same = ap (λ (b : List ℕ). length (clusters b)) bytes_are in
    let enough : at + n ≤ length (clusters bytes) = elim (cases_lt (length (clusters bytes)) (at + n)) [ inl few ↦ absurd (some_is_none found (none.1 few)) | inr fits ↦ fits ] in
    let scalars_are = ap length (encodes_same (chars bytes) (text s.held.history x) (encodes-chars bytes utf8 ∙ bytes_are)) in
    let long = text_length s.held.history x lawful in
    subst (λ (q : Result (ℕ × ℕ) CommentFault). IfOk q (IsRange s k at n)) (sym is) (record {
      section = x;
      shown_at = shown;
      enough = omega (arith, enough, same);
      found_is = spans ∙ ap (λ (b : List ℕ). scalar_range (clusters b) at n) bytes_are;
      inside = omega (arith, within_text, scalars_are, long);
      some = λ l. subst (λ (f : ℕ × ℕ). 0 < f.1) (sym spans) (some_scalars bytes at n utf8 enough l);
    })

pub range_missing : (s : State) (k at n : ℕ) (bytes : List ℕ) (x : Identifier) (r : Option (ℕ × ℕ)) (result : Result (ℕ × ℕ) CommentFault) → result ≡ ok_or r OutOfRange
    → section_shown s k ≡ Some x → bytes ≡ encode_utf8_all (text s.held.history x) → (IsNone r ↔ (length (clusters bytes) < at + n)) → IfErr result (HasNoRange s k at n)
range_missing s k at n bytes x (Some found) result is shown bytes_are none = subst (λ (q : Result (ℕ × ℕ) CommentFault). IfErr q (HasNoRange s k at n)) (sym is) tt
range_missing s k at n bytes x None result is shown bytes_are none =
    subst (λ (q : Result (ℕ × ℕ) CommentFault). IfErr q (HasNoRange s k at n)) (sym is)
    (x, shown, subst (λ (b : List ℕ). length (clusters b) < at + n) bytes_are (none.0 refl))

-- the scalars of a range are there
pub scalar_there : (s : State) (k at n : ℕ) (found : ℕ × ℕ) (i : ℕ) → IsRange s k at n found → i < found.0 + found.1 → IsSome (shown_element s k i)
scalar_there s k at n found i r l =
    let f = get_some (shown (within r.section) s.held.history) i (omega (arith, l, r.inside)) in
    subst (λ (o : Option Identifier). IsSome o) (sym (ap (option_and_then (λ x. slice_get (shown (within x) s.held.history) i)) r.shown_at ∙ f.1)) refl

-- so they are the passage of the range
pub passage_found : (s : State) (k at n : ℕ) (found : ℕ × ℕ) (first last : Identifier) (named : List Identifier) → IsRange s k at n found → 0 < n
    → shown_element s k found.0 ≡ Some first → shown_element s k (found.0 + found.1 - 1) ≡ Some last → named ≡ first ∷ last ∷ [] → NamesPassage s k at n named
passage_found s k at n found first last named r l a b e =
    let in_it : (i : ℕ) → shown_element s k i ≡ slice_get (shown (within r.section) s.held.history) i =
    λ i. ap (option_and_then (λ x. slice_get (shown (within x) s.held.history) i)) r.shown_at in
    record {
      section = r.section;
      first = first;
      last = last;
      passage = record {
        shown_at = r.shown_at;
        enough = r.enough;
        some = subst (λ (f : ℕ × ℕ). 0 < f.1) r.found_is (r.some l);
        first_is = ap (λ (f : ℕ × ℕ). slice_get (shown (within r.section) s.held.history) f.0) (sym r.found_is) ∙ sym (in_it found.0) ∙ a;
        last_is = ap (λ (f : ℕ × ℕ). slice_get (shown (within r.section) s.held.history) (f.0 + f.1 - 1)) (sym r.found_is) ∙ sym (in_it (found.0 + found.1 - 1)) ∙ b;
      };
      named_are = e;
    }

-- an element of a section is a Text of it
is_text_in : (h : List Op) (s x : Identifier) → IsIn (within s) h x → is_text_of h s x ≡ true
is_text_in h s x m = ap (λ o. elim o [ None ↦ false | Some op ↦ stands_at (within s) op ]) m.held ∙ place_stands m.op (within s) (element_stands (within s) m.op x m.place).0

-- the names are held
pub names_held : (s : State) (k at n : ℕ) (named : List Identifier) → NamesPassage s k at n named → Lawful s.held.history → AreHeld s.held.history named
names_held s k at n named p w =
    let h : List Op = s.held.history in
    let held : (i : ℕ) (x : Identifier) → slice_get (shown (within p.section) h) i ≡ Some x
    → holds h x ≡ true = λ i x e. IsIn-held (within p.section) h x (shown_in (within p.section) h i x w e) in
    subst (AreHeld h) (sym p.named_are)
    (All-cons (λ i. holds h i ≡ true) p.first (p.last ∷ []) (held _ p.first p.passage.first_is)
    (All-cons (λ i. holds h i ≡ true) p.last [] (held _ p.last p.passage.last_is) (All-nil (λ i. holds h i ≡ true))))

-- a note on shown scalars of a section, in the history that it joined
module _ (h : List Op) (id s a b : Identifier) (body : List ℕ) (i j : ℕ) (good : is_text body ≡ true) (w : Lawful (Note id (a ∷ b ∷ []) COMMENT_CODE body ∷ h))
    (at_a : slice_get (shown (within s) (Note id (a ∷ b ∷ []) COMMENT_CODE body ∷ h)) i ≡ Some a)
    (at_b : slice_get (shown (within s) (Note id (a ∷ b ∷ []) COMMENT_CODE body ∷ h)) j ≡ Some b) (le : i ≤ j) where
  abbrev whole : List Op
  whole = Note id (a ∷ b ∷ []) COMMENT_CODE body ∷ h

  abbrev total : IsTotal (within s) whole
  total = order_total (within s) whole w

  abbrev listing : List Identifier
  listing = shown (within s) whole

  in_order : AllPairs (λ x y. before (within s) whole x y ≡ true) listing
  in_order = AllPairs-filter (λ x y. before (within s) whole x y ≡ true) (λ x. not (is_hidden whole x)) (order (within s) whole) total.agrees

  anchors_ordered : (id_eq a b || before (within s) whole a b) ≡ true
  anchors_ordered =
      elim (cases_lt i j) [
        | inl l ↦ or_right (id_eq a b) (before (within s) whole a b) (ordered_at (before (within s) whole) listing i j a b in_order at_a at_b l)
        | inr l ↦
            let e : i ≡ j = omega (arith, le, l) in
            let d : a ≡ b = same_Some a b (sym at_a ∙ ap (slice_get listing) e ∙ at_b) in
            ap (λ t. t || before (within s) whole a b) (eq-id_eq a b d)
      ]

  abbrev made : Comment
  made = record { id = id; first = a; last = b; text = body }

  pub made_listed : Contains (comments_in whole s) made
  made_listed = to_comments whole s made (record {
    op = Note id (a ∷ b ∷ []) COMMENT_CODE body;
    member = contains_here (Note id (a ∷ b ∷ []) COMMENT_CODE body) h;
    says = ap (λ t. if t then Some made else None) good;
    in_section = λ t. (is_text_in whole s a (shown_in (within s) whole i a w at_a) t && is_text_in whole s b (shown_in (within s) whole j b w at_b) t) && anchors_ordered t;
    not_withdrawn = not_hidden_before h id w.1 (when_ready h (Note id (a ∷ b ∷ []) COMMENT_CODE body) w.0).fresh;
  })

  pub made_begins : (margin_span whole s a b).from ≡ i
  made_begins = count_at (before (within s) whole) total.irreflexive total.transitive listing i a in_order at_a

  pub made_ends : (margin_span whole s a b).to ≡ suc j
  made_ends =
      up_to (before (within s) whole) total.irreflexive total.transitive b listing in_order (get_in listing j b at_b)
      ∙ ap suc (count_at (before (within s) whole) total.irreflexive total.transitive listing j b in_order at_b)

-- the comment that was made stands on its clusters
pub stands_on : (old new : State) (k at n count : ℕ) (body : List ℕ) (named : List Identifier) → is_text body ≡ true → NamesPassage old k at n named
    → IsNoted old new named COMMENT_CODE body count
    → ShowsAsBefore old new → IsSound new → IsCommented old new k at n body
stands_on old new k at n count body named good p noted shows sound =
    let q = p.passage in
    let s : Identifier = p.section in
    let r : ℕ × ℕ = range_of old.held.history s at n in
    let id : Identifier = id_at old.number (next_of_own old) in
    let is : new ≡ with_ops old (note_by old (p.first ∷ p.last ∷ []) COMMENT_CODE body ∷ []) =
    noted.gained.others ∙ ap (λ ns. with_ops old (note_by old ns COMMENT_CODE body ∷ [])) p.named_are in
    let whole : List Op = Note id (p.first ∷ p.last ∷ []) COMMENT_CODE body ∷ old.held.history in
    let h : new.held.history ≡ whole = ap (λ (t : State). t.held.history) is in
    let w : Lawful whole = subst Lawful h sound.lawful in
    let same : shown (within s) old.held.history ≡ shown (within s) whole = sym (shows.lists (within s)) ∙ ap (shown (within s)) h in
    let at_a : slice_get (shown (within s) whole) r.0 ≡ Some p.first = ap (λ xs. slice_get xs r.0) (sym same) ∙ q.first_is in
    let at_b : slice_get (shown (within s) whole) (r.0 + r.1 - 1) ≡ Some p.last = ap (λ xs. slice_get xs (r.0 + r.1 - 1)) (sym same) ∙ q.last_is in
    let le : r.0 ≤ r.0 + r.1 - 1 = omega (arith, q.some) in
    let end : suc (r.0 + r.1 - 1) ≡ r.0 + r.1 = omega (arith, q.some) in
    record {
      section = s;
      shown_at = q.shown_at;
      comment = record { id = id; first = p.first; last = p.last; text = body };
      says = refl;
      listed = subst (λ z. Contains (comments_in z s) (record { id = id; first = p.first; last = p.last; text = body })) (sym h)
          (made_listed old.held.history id s p.first p.last body r.0 (r.0 + r.1 - 1) good w at_a at_b le);
      begins = ap (λ z. (margin_span z s p.first p.last).from) h ∙ made_begins old.held.history id s p.first p.last body r.0 (r.0 + r.1 - 1) good w at_a at_b le;
      ends = ap (λ z. (margin_span z s p.first p.last).to) h ∙ made_ends old.held.history id s p.first p.last body r.0 (r.0 + r.1 - 1) good w at_a at_b le ∙ end;
    }

pub made_on : (old new : State) (k at n count : ℕ) (body : List ℕ) (named : List Identifier) → NamesPassage old k at n named → IsNoted old new named COMMENT_CODE body count
    → IsCommentMade old new k at n body count
made_on old new k at n count body named p noted =
    record { section = p.section; first = p.first; last = p.last; passage = p.passage; noted = subst (λ ns. IsNoted old new ns COMMENT_CODE body count) p.named_are noted }
