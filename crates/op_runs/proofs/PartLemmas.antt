-- What parts stand for as letters, others and parts come.
use Rattle.std.proofs.Common.{◌≡◌, ℕ, zero, suc, ◌+◌, ◌-◌, ◌<◌, ◌≤◌, List, [], ◌∷◌, ◌++◌, length, take, drop, refl, ap, sym, subst, ◌∙◌, arith, append_assoc, append-nil}
use Rattle.std.proofs.Common.{length-append, length-drop}
use Rattle.std.specs.Prelude.{All, slice_get, set}
use Rattle.std.proofs.lemmas.Grind.{flat_map-append}
use Rattle.std.proofs.lemmas.List.{drop-append-le, length-take-le, take-append-le}
use Rattle.std.proofs.lemmas.List.Elements.{All-append, All-cons, All-head, All-nil, All-tail}
use Rattle.std.proofs.Math.Seq.{set-append_seam}
use Rattle.fugue_ids.specs.Runs.{run_from}
use Rattle.op_runs.specs.declared.part.TheConstants.{MOST_LISTED}
use Rattle.fugue_ids.specs.declared.op.Op.{Op}
use Rattle.fugue_ids.proofs.ListLemmas.{all_before, all_after, slice_get-append}
use Rattle.fugue_ids.proofs.RunLemmas.{length-typed}
use Rattle.op_runs.specs.Growing.{IsAppendedPart, IsLastPart, IsReplacedPart}
use Rattle.op_runs.specs.Parts.{AreApart, AreLaid, AreParts, ContinuesPart, IsInside, IsOther, IsSoundPart, IsWholePart, PartStandsAfter, firsts_of, letters_in, ops_of, other_ops}
use Rattle.op_runs.specs.Parts.{others_in, part_len, part_ops}
use Rattle.op_runs.specs.declared.part.Part.{Part}
use Rattle.op_runs.specs.declared.part.Part.TheVariants.{Deleted, Other, Typed}
use Rattle.op_runs.proofs.DeletionLemmas.{length-deletes}

pub set_last : {X : Type 0} (xs : List X) (x y : X) → set (xs ++ x ∷ []) (length (xs ++ x ∷ []) - 1) y ≡ xs ++ y ∷ []
set_last xs x y = let e : length (xs ++ x ∷ []) - 1 ≡ length xs = omega (arith, length-append xs (x ∷ [])) in ap (λ k. set (xs ++ x ∷ []) k y) e ∙ set-append_seam xs x [] y

-- How parts are laid

laid_within : (l o : ℕ) (ps : List Part) (L O : ℕ) → AreLaid l o ps L O → (l ≤ L) × (o ≤ O)
laid_within l o [] L O a = (omega (arith, a.0), omega (arith, a.1))
laid_within l o (p ∷ ps) L O a = let r = laid_within (l + letters_in p) (o + others_in p) ps L O a.1 in (omega (arith, r.0), omega (arith, r.1))

one_inside : (l o L O : ℕ) (p : Part) → PartStandsAfter l o p → l + letters_in p ≤ L → o + others_in p ≤ O → IsInside L O p
one_inside l o L O (Typed r) s a b = omega (arith, s, a)
one_inside l o L O (Deleted d) s a b = tt
one_inside l o L O (Other k) s a b = omega (arith, s, b)

pub laid_sound : (l o : ℕ) (ps : List Part) (L O : ℕ) → All IsWholePart ps → AreLaid l o ps L O → All (IsSoundPart L O) ps
laid_sound l o [] L O w a = All-nil (IsSoundPart L O)
laid_sound l o (p ∷ ps) L O w a =
    let r = laid_within (l + letters_in p) (o + others_in p) ps L O a.1 in
    All-cons (IsSoundPart L O) p ps (All-head IsWholePart p ps w, one_inside l o L O p a.0 r.0 r.1)
    (laid_sound (l + letters_in p) (o + others_in p) ps L O (All-tail IsWholePart p ps w) a.1)

-- all parts of a list of operations are sound
pub sound_of : (l : List ℕ) (o : List Op) (ps : List Part) (fs : List ℕ) (n : ℕ) → AreParts l o ps fs n → All (IsSoundPart (length l) (length o)) ps
sound_of l o ps fs n a = laid_sound 0 0 ps (length l) (length o) a.whole a.laid

pub laid-push : (l o : ℕ) (ps : List Part) (L O : ℕ) (p : Part) → AreLaid l o ps L O → PartStandsAfter L O p → AreLaid l o (ps ++ p ∷ []) (L + letters_in p) (O + others_in p)
laid-push l o [] L O p a s =
    (subst (λ k. PartStandsAfter k o p) (sym a.0) (subst (λ k. PartStandsAfter L k p) (sym a.1) s), (ap (λ k. k + letters_in p) a.0, ap (λ k. k + others_in p) a.1))
laid-push l o (q ∷ qs) L O p a s = (a.0, laid-push (l + letters_in q) (o + others_in q) qs L O p a.1 s)

-- where the last part stands
pub record IsLaidLast (l o : ℕ) (front : List Part) (p : Part) (L O : ℕ) : Type 0 where
  pub letters : ℕ
  pub others : ℕ
  pub laid : AreLaid l o front letters others
  pub behind : PartStandsAfter letters others p
  pub letters_end : letters + letters_in p ≡ L
  pub others_end : others + others_in p ≡ O

pub laid-last : (l o : ℕ) (front : List Part) (p : Part) (L O : ℕ) → AreLaid l o (front ++ p ∷ []) L O → IsLaidLast l o front p L O
laid-last l o [] p L O a = record { letters = l; others = o; laid = (refl, refl); behind = a.0; letters_end = a.1.0; others_end = a.1.1 }
laid-last l o (q ∷ qs) p L O a =
    let r = laid-last (l + letters_in q) (o + others_in q) qs p L O a.1 in
    record { letters = r.letters; others = r.others; laid = (a.0, r.laid); behind = r.behind; letters_end = r.letters_end; others_end = r.others_end }

-- Letters and others that come leave the parts as they are

taken_stays : (letters more : List ℕ) (at count : ℕ) → at + count ≤ length letters → take count (drop at (letters ++ more)) ≡ take count (drop at letters)
taken_stays letters more at count h =
    let inside : at ≤ length letters = omega (arith, h) in
    let enough : count ≤ length (drop at letters) = omega (arith, h, length-drop at letters) in
    ap (take count) (drop-append-le at letters more inside) ∙ take-append-le count (drop at letters) more enough

pub part_stays : (letters more : List ℕ) (others new : List Op) (p : Part) → IsInside (length letters) (length others) p
    → part_ops (letters ++ more) (others ++ new) p ≡ part_ops letters others p
part_stays letters more others new (Typed r) s = ap (run_from r.start) (taken_stays letters more r.at r.count s)
part_stays letters more others new (Deleted d) s = refl
part_stays letters more others new (Other k) s = ap other_ops (slice_get-append others new k s)

pub ops_stay : (letters more : List ℕ) (others new : List Op) (ps : List Part) → All (IsSoundPart (length letters) (length others)) ps
    → ops_of (letters ++ more) (others ++ new) ps ≡ ops_of letters others ps
ops_stay letters more others new [] s = refl
ops_stay letters more others new (p ∷ ps) s =
    (λ i. part_stays letters more others new p (All-head (IsSoundPart (length letters) (length others)) p ps s).1 i
    ++ ops_stay letters more others new ps (All-tail (IsSoundPart (length letters) (length others)) p ps s) i)

-- How many operations there are

other_len : (others : List Op) (k : ℕ) → k < length others → length (other_ops (slice_get others k)) ≡ 1
other_len [] k h = absurd (omega (arith, h))
other_len (op ∷ others) zero h = refl
other_len (op ∷ others) (suc k) h = other_len others k (omega (arith, h))

pub part_has : (letters : List ℕ) (others : List Op) (p : Part) → IsSoundPart (length letters) (length others) p → length (part_ops letters others p) ≡ part_len p
part_has letters others (Typed r) s =
    let enough : r.count ≤ length (drop r.at letters) = omega (arith, s.1, length-drop r.at letters) in
    length-typed r.start.id r.start.section r.start.left r.start.right (take r.count (drop r.at letters)) ∙ length-take-le r.count (drop r.at letters) enough
part_has letters others (Deleted d) s = length-deletes d.down d.target d.count
part_has letters others (Other k) s = other_len others k s.1

pub has_some : (l o : ℕ) (p : Part) → IsSoundPart l o p → 0 < part_len p
has_some l o (Typed r) s = s.0.0
has_some l o (Deleted d) s = s.0.0
has_some l o (Other k) s = omega arith

in_part : (p : Part) → letters_in p + others_in p ≤ part_len p
in_part (Typed r) = omega arith
in_part (Deleted d) = omega arith
in_part (Other k) = omega arith

-- each letter and each other operation is one of them
laid_long : (letters : List ℕ) (others : List Op) (l o : ℕ) (ps : List Part) (L O : ℕ) → All (IsSoundPart (length letters) (length others)) ps → AreLaid l o ps L O
    → L + O ≤ l + o + length (ops_of letters others ps)
laid_long letters others l o [] L O s a = omega (arith, a.0, a.1)
laid_long letters others l o (p ∷ ps) L O s a =
    let P = IsSoundPart (length letters) (length others) in
    let r = laid_long letters others (l + letters_in p) (o + others_in p) ps L O (All-tail P p ps s) a.1 in
    let n = part_has letters others p (All-head P p ps s) in
    omega (arith, r, n, in_part p, length-append (part_ops letters others p) (ops_of letters others ps))

pub room_in : (l : List ℕ) (o : List Op) (ps : List Part) (fs : List ℕ) (n : ℕ) → AreParts l o ps fs n → length l + length o ≤ n
room_in l o ps fs n a = let r = laid_long l o 0 0 ps (length l) (length o) (sound_of l o ps fs n a) a.laid in omega (arith, r, a.counted)

-- One part more

pub one_more : (letters : List ℕ) (others : List Op) (ps : List Part) (p : Part) → ops_of letters others (ps ++ p ∷ []) ≡ ops_of letters others ps ++ part_ops letters others p
one_more letters others ps p = flat_map-append (part_ops letters others) ps (p ∷ []) ∙ ap (λ z. ops_of letters others ps ++ z) (append-nil (part_ops letters others p))

-- the last part has no more operations than all
pub last_short : (l : List ℕ) (o : List Op) (ps : List Part) (fs : List ℕ) (n : ℕ) (last : Part) → AreParts l o ps fs n → IsLastPart ps last → part_len last ≤ n
last_short l o ps fs n last a is =
    let s = subst (All (IsSoundPart (length l) (length o))) is.whole (sound_of l o ps fs n a) in
    let at = All-head (IsSoundPart (length l) (length o)) last [] (all_after (IsSoundPart (length l) (length o)) is.front (last ∷ []) s) in
    let whole : length (ops_of l o ps) ≡ length (ops_of l o is.front) + length (part_ops l o last) =
    ap (λ z. length (ops_of l o z)) is.whole ∙ ap length (one_more l o is.front last) ∙ length-append (ops_of l o is.front) (part_ops l o last) in
    omega (arith, a.counted, whole, part_has l o last at)

-- No part goes on with the one before it

pub apart-push : (ps : List Part) (p : Part) → AreApart ps → ((last : Part) → IsLastPart ps last → ContinuesPart last p → ⊥) → AreApart (ps ++ p ∷ [])
apart-push [] p a n = (tt, tt)
apart-push (q ∷ []) p a n = (n q (record { front = []; whole = refl }), (tt, tt))
apart-push (q ∷ r ∷ rs) p a n = (a.0, apart-push (r ∷ rs) p a.1 (λ last is. n last (record { front = q ∷ is.front; whole = ap (λ z. q ∷ z) is.whole })))

pub apart-front : (front : List Part) (p : Part) → AreApart (front ++ p ∷ []) → AreApart front
apart-front [] p a = tt
apart-front (q ∷ []) p a = (tt, tt)
apart-front (q ∷ r ∷ rs) p a = (a.0, apart-front (r ∷ rs) p a.1)

pub apart-other : (front : List Part) (p q : Part) → ((before : Part) → ContinuesPart before q → ContinuesPart before p) → AreApart (front ++ p ∷ []) → AreApart (front ++ q ∷ [])
apart-other [] p q f a = (tt, tt)
apart-other (r ∷ []) p q f a = (λ g. a.0 (f r g), (tt, tt))
apart-other (r ∷ s ∷ rs) p q f a = (a.0, apart-other (s ∷ rs) p q f a.1)

-- Where parts begin

pub firsts_push : (letters : List ℕ) (others : List Op) (n : ℕ) (ps : List Part) (p : Part) → All (IsSoundPart (length letters) (length others)) ps
    → firsts_of n (ps ++ p ∷ []) ≡ firsts_of n ps ++ (n + length (ops_of letters others ps)) ∷ []
firsts_push letters others n [] p s = let e : n ≡ n + 0 = omega arith in ap (λ k. k ∷ []) e
firsts_push letters others n (q ∷ qs) p s =
    let P = IsSoundPart (length letters) (length others) in
    let l : length (part_ops letters others q ++ ops_of letters others qs) ≡ part_len q + length (ops_of letters others qs) =
    length-append (part_ops letters others q) (ops_of letters others qs) ∙ ap (λ k. k + length (ops_of letters others qs)) (part_has letters others q (All-head P q qs s)) in
    let e : n + part_len q + length (ops_of letters others qs) ≡ n + length (part_ops letters others q ++ ops_of letters others qs) = omega (arith, l) in
    ap (λ z. n ∷ z) (firsts_push letters others (n + part_len q) qs p (All-tail P q qs s) ∙ ap (λ k. firsts_of (n + part_len q) qs ++ k ∷ []) e)

pub firsts_last : (n : ℕ) (front : List Part) (x y : Part) → firsts_of n (front ++ x ∷ []) ≡ firsts_of n (front ++ y ∷ [])
firsts_last n [] x y = refl
firsts_last n (q ∷ qs) x y = ap (λ z. n ∷ z) (firsts_last (n + part_len q) qs x y)

-- Operations after the others

pub record IsPushed (l : List ℕ) (o : List Op) (ps : List Part) (fs : List ℕ) (n : ℕ) (old added : List Op) : Type 0 where
  pub are : AreParts l o ps fs n
  pub ops : ops_of l o ps ≡ old ++ added

-- a part of their own
appended : (l more : List ℕ) (o new : List Op) (ps : List Part) (fs : List ℕ) (n : ℕ) (p : Part) → AreParts l o ps fs n → IsWholePart p → PartStandsAfter (length l) (length o) p
    → length more ≡ letters_in p → length new ≡ others_in p → All IsOther new → n + part_len p ≤ MOST_LISTED → ((last : Part) → IsLastPart ps last → ContinuesPart last p → ⊥)
    → IsPushed (l ++ more) (o ++ new) (ps ++ p ∷ []) (fs ++ n ∷ []) (n + part_len p) (ops_of l o ps) (part_ops (l ++ more) (o ++ new) p)
appended l more o new ps fs n p a w stands ll oo others room apart =
    let el : length l + letters_in p ≡ length (l ++ more) = omega (arith, ll, length-append l more) in
    let eo : length o + others_in p ≡ length (o ++ new) = omega (arith, oo, length-append o new) in
    let sound = sound_of l o ps fs n a in
    let ops : ops_of (l ++ more) (o ++ new) (ps ++ p ∷ []) ≡ ops_of l o ps ++ part_ops (l ++ more) (o ++ new) p =
    one_more (l ++ more) (o ++ new) ps p ∙ ap (λ z. z ++ part_ops (l ++ more) (o ++ new) p) (ops_stay l more o new ps sound) in
    let inside : IsInside (length (l ++ more)) (length (o ++ new)) p =
    one_inside (length l) (length o) (length (l ++ more)) (length (o ++ new)) p stands (omega (arith, el)) (omega (arith, eo)) in
    let first : n ≡ 0 + length (ops_of l o ps) = omega (arith, a.counted) in
    record {
      are = record {
        whole = All-append IsWholePart ps (p ∷ []) a.whole (All-cons IsWholePart p [] w (All-nil IsWholePart));
        laid = subst (λ k. AreLaid 0 0 (ps ++ p ∷ []) k (length (o ++ new))) el
            (subst (λ k. AreLaid 0 0 (ps ++ p ∷ []) (length l + letters_in p) k) eo (laid-push 0 0 ps (length l) (length o) p a.laid stands));
        apart = apart-push ps p a.apart apart;
        are_others = All-append IsOther o new a.are_others others;
        firsts_are = (λ i. a.firsts_are i ++ first i ∷ []) ∙ sym (firsts_push l o 0 ps p sound);
        counted = omega (arith, a.counted, ap length ops, length-append (ops_of l o ps) (part_ops (l ++ more) (o ++ new) p), part_has (l ++ more) (o ++ new) p (w, inside));
        small = room;
      };
      ops = ops;
    }

-- a longer part begins as the other does
pub record BeginsAs (l more : List ℕ) (o : List Op) (last p : Part) (added : List Op) : Type 0 where
  pub whole : IsWholePart p
  pub stands : (a b : ℕ) → PartStandsAfter a b last → PartStandsAfter a b p
  pub goes : (before : Part) → ContinuesPart before p → ContinuesPart before last
  pub letters : letters_in p ≡ letters_in last + length more
  pub others : others_in p ≡ others_in last
  pub ops : part_ops (l ++ more) o p ≡ part_ops l o last ++ added
  pub long : part_len p ≡ part_len last + length added

replaced : (l more : List ℕ) (o : List Op) (front : List Part) (fs : List ℕ) (n : ℕ) (last p : Part) (added : List Op) → AreParts l o (front ++ last ∷ []) fs n
    → BeginsAs l more o last p added
    → n + length added ≤ MOST_LISTED → IsPushed (l ++ more) o (front ++ p ∷ []) fs (n + length added) (ops_of l o (front ++ last ∷ [])) added
replaced l more o front fs n last p added a b room =
    let at = laid-last 0 0 front last (length l) (length o) a.laid in
    let P = IsSoundPart (length l) (length o) in
    let sound : All P front = all_before P front (last ∷ []) (sound_of l o (front ++ last ∷ []) fs n a) in
    let el : at.letters + letters_in p ≡ length (l ++ more) = omega (arith, at.letters_end, b.letters, length-append l more) in
    let eo : at.others + others_in p ≡ length o = omega (arith, at.others_end, b.others) in
    let old : ops_of l o (front ++ last ∷ []) ≡ ops_of l o front ++ part_ops l o last = one_more l o front last in
    let same : ops_of (l ++ more) o front ≡ ops_of l o front = (λ i. ops_of (l ++ more) (sym (append-nil o) i) front) ∙ ops_stay l more o [] front sound in
    let ops : ops_of (l ++ more) o (front ++ p ∷ []) ≡ ops_of l o (front ++ last ∷ []) ++ added =
    one_more (l ++ more) o front p ∙ (λ i. same i ++ b.ops i) ∙ sym (append_assoc (ops_of l o front) (part_ops l o last) added) ∙ ap (λ z. z ++ added) (sym old) in
    record {
      are = record {
        whole = All-append IsWholePart front (p ∷ []) (all_before IsWholePart front (last ∷ []) a.whole) (All-cons IsWholePart p [] b.whole (All-nil IsWholePart));
        laid = subst (λ k. AreLaid 0 0 (front ++ p ∷ []) k (length o)) el
            (subst (λ k. AreLaid 0 0 (front ++ p ∷ []) (at.letters + letters_in p) k) eo
            (laid-push 0 0 front at.letters at.others p at.laid (b.stands at.letters at.others at.behind)));
        apart = apart-other front last p b.goes a.apart;
        are_others = a.are_others;
        firsts_are = a.firsts_are ∙ firsts_last 0 front last p;
        counted = omega (arith, a.counted, ap length ops, length-append (ops_of l o (front ++ last ∷ [])) added);
        small = room;
      };
      ops = ops;
    }

-- the same of the parts that a call left
pub added_part : (l l' more : List ℕ) (o o' new : List Op) (ps ps' : List Part) (fs fs' : List ℕ) (n : ℕ) (p : Part) → l' ≡ l ++ more → o' ≡ o ++ new → AreParts l o ps fs n
    → IsAppendedPart ps ps' fs fs' n p → IsWholePart p
    → PartStandsAfter (length l) (length o) p → length more ≡ letters_in p → length new ≡ others_in p → All IsOther new → n + part_len p ≤ MOST_LISTED
    → IsPushed l' o' ps' fs' (n + part_len p) (ops_of l o ps) (part_ops l' o' p)
added_part l l' more o o' new ps ps' fs fs' n p el eo a is w stands ll oo others room =
    let r = appended l more o new ps fs n p a w stands ll oo others room is.apart in
    record {
      are = subst (λ (z : List ℕ). AreParts z o' ps' fs' (n + part_len p)) (sym el) (subst (λ (z : List Op). AreParts (l ++ more) z ps' fs' (n + part_len p)) (sym eo)
          (subst (λ (z : List Part). AreParts (l ++ more) (o ++ new) z fs' (n + part_len p)) (sym is.parts_are)
          (subst (λ (z : List ℕ). AreParts (l ++ more) (o ++ new) (ps ++ p ∷ []) z (n + part_len p)) (sym is.firsts_are) r.are)));
      ops = (λ i. ops_of (el i) (eo i) (is.parts_are i)) ∙ r.ops ∙ (λ i. ops_of l o ps ++ part_ops (sym el i) (sym eo i) p);
    }

pub replaced_part : (l l' more : List ℕ) (o : List Op) (ps ps' : List Part) (fs fs' : List ℕ) (n : ℕ) (last p : Part) (added : List Op) → l' ≡ l ++ more → AreParts l o ps fs n
    → IsReplacedPart ps ps' fs fs' last p
    → BeginsAs l more o last p added → n + length added ≤ MOST_LISTED → IsPushed l' o ps' fs' (n + length added) (ops_of l o ps) added
replaced_part l l' more o ps ps' fs fs' n last p added el a is b room =
    let r = replaced l more o is.front fs n last p added (subst (λ (z : List Part). AreParts l o z fs n) is.was a) b room in
    record {
      are = subst (λ (z : List ℕ). AreParts z o ps' fs' (n + length added)) (sym el) (subst (λ (z : List Part). AreParts (l ++ more) o z fs' (n + length added)) (sym is.is)
          (subst (λ (z : List ℕ). AreParts (l ++ more) o (is.front ++ p ∷ []) z (n + length added)) (sym is.firsts_stay) r.are));
      ops = (λ i. ops_of (el i) o (is.is i)) ∙ r.ops ∙ (λ i. ops_of l o (sym is.was i) ++ added);
    }
