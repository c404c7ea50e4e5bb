-- The lines of all sections are in the order of their numbers and identifiers, and say what the definitions write.
use Rattle.margin_notes.proofs.Words.{All, All-contains, AllPairs, Contains, Identifier, Lawful, List, None, Op, Option, Some, [], all_from_contains, all_pairs_head}
use Rattle.margin_notes.proofs.Words.{all_pairs_tail, ap, arith, cases_Bool, false, flat_map, id_of, if◌then◌else◌, inl, inr, map, not, option_map, refl, reverse, subst, suc, sym}
use Rattle.margin_notes.proofs.Words.{true, true≢false, ℕ, ◌++◌, ◌<◌, ◌≤◌, ◌∙◌, ◌∷◌, ◌≡◌}
use Rattle.std.specs.Prelude.{◌≢◌, ◌⊎◌}
use Rattle.std.proofs.lemmas.List.Concat.{flat_map-append}
use Rattle.std.proofs.lemmas.List.Elements.{Contains-append_cases, Contains-append_left, Contains-append_right}
use Rattle.std.proofs.lemmas.List.Sorted.{Contains-permutation, IsPermutation-reverse, IsPermutation-sym}
use Rattle.fugue_ids.specs.Identifiers.{id_lt}
use Rattle.fugue_ids.proofs.IdentifierLemmas.{cases_id, eq-id_eq, id_eq-refl, ne-id_eq}
use Rattle.fugue_ids.proofs.ListLemmas.{all_pairs_append, all_pairs_map, all_pairs_nil, all_pairs_weaker, contains_map, contains_map_from, contains_none}
use Rattle.origin_model.specs.declared.operations.Place.TheVariants.{Catalogue as catalogue}
use Rattle.origin_model.specs.operations.History.{HaveOtherIds}
use Rattle.origin_model.specs.order.Order.{order}
use Rattle.origin_model.specs.order.Printed.{is_hidden, is_withdrawn, shown}
use Rattle.origin_model.proofs.SharedLemmas.{order_total}
use Rattle.std.proofs.lemmas.List.Kept.{AllPairs-filter}
use Rattle.margin_notes.specs.Comments.{Comment, by_id, comment_in, comments_in}
use Rattle.margin_notes.specs.Listing.{CommentLine, line_for, listed_line, line_of_comment, lines_in, listed_comments, listed_from, number_from, section_number, commented_section}
use Rattle.margin_notes.specs.Margins.{comment_line, comment_lines}
use Rattle.margin_notes.proofs.CountLemmas.{number_in}
use Rattle.margin_notes.proofs.KeptLemmas.{said_from, said_in, said_pairs}
use Rattle.margin_notes.proofs.MemberLemmas.{comment_says, from_comments, has_section, listed_apart, section_is, to_comments}
use Rattle.margin_notes.proofs.SortLemmas.{Earlier, by_id_from, by_id_in, by_id_ordered}
use Rattle.fugue_ids.proofs.OrderLemmas.{id_irrefl, id_trans}

-- the line a is written before b
abbrev pub Below : CommentLine → CommentLine → Type 0
Below a b = (a.number < b.number) ⊎ ((a.number ≡ b.number) × (id_lt a.id b.id ≡ true))

pub below_irrefl : (a : CommentLine) → Below a a → ⊥
below_irrefl a (inl l) = omega (arith, l)
below_irrefl a (inr e) = true≢false (sym e.1 ∙ id_irrefl a.id)

pub below_trans : (a b c : CommentLine) → Below a b → Below b c → Below a c
below_trans a b c (inl l) (inl m) = inl (omega (arith, l, m))
below_trans a b c (inl l) (inr m) = inl (omega (arith, l, m.0))
below_trans a b c (inr l) (inl m) = inl (omega (arith, l.0, m))
below_trans a b c (inr l) (inr m) = inr (l.0 ∙ m.0, id_trans a.id b.id c.id l.1 m.1)

module _ (h : List Op) where
  -- the numbers do not fall below the first
  numbers_from : (k : ℕ) (ss : List Identifier) (l : CommentLine) → Contains (listed_from h k ss) l → k ≤ l.number
  numbers_from k [] l c = absurd (contains_none l c)
  numbers_from k (s ∷ ss) l c =
      elim (Contains-append_cases (map (line_of_comment h k s) (by_id (comments_in h s))) (listed_from h (suc k) ss) l c) [
        | inl m ↦
            let f = contains_map_from (line_of_comment h k s) (by_id (comments_in h s)) l m in
            let e : k ≡ l.number = ap (λ (x : CommentLine). x.number) f.2 in
            omega (arith, e)
        | inr m ↦ omega (arith, numbers_from (suc k) ss l m)
      ]

  -- the lines are in order
  pub listed_ordered : (k : ℕ) (ss : List Identifier) → Lawful h → AllPairs Below (listed_from h k ss)
  listed_ordered k [] w = all_pairs_nil Below
  listed_ordered k (s ∷ ss) w =
      let cs : List Comment = by_id (comments_in h s) in
      let here : List CommentLine = map (line_of_comment h k s) cs in
      let rest : List CommentLine = listed_from h (suc k) ss in
      all_pairs_append Below here rest
      (all_pairs_map (line_of_comment h k s) Below cs
      (all_pairs_weaker Earlier (λ c d. Below (line_of_comment h k s c) (line_of_comment h k s d)) (λ c d e. inr (refl, e)) cs
      (by_id_ordered (comments_in h s) (listed_apart h s w))))
      (listed_ordered (suc k) ss w)
      (all_from_contains (λ x. All (Below x) rest) here (λ x m. all_from_contains (Below x) rest (λ y n.
      let f = contains_map_from (line_of_comment h k s) cs x m in
      let e : k ≡ x.number = ap (λ (z : CommentLine). z.number) f.2 in
      inl (omega (arith, e, numbers_from (suc k) ss y n)))))

  -- the line of a comment is there
  pub listed_in : (k : ℕ) (ss : List Identifier) (s : Identifier) (n : ℕ) (c : Comment) → number_from k ss s ≡ Some n → Contains (comments_in h s) c
      → Contains (listed_from h k ss) (line_of_comment h n s c)
  listed_in k [] s n c e m = cc
  listed_in k (x ∷ ss) s n c e m =
      elim (cases_id x s) [
        | inl d ↦
            let at : Some k ≡ Some n = sym (ap (λ b. if b then Some k else number_from (suc k) ss s) (eq-id_eq x s d)) ∙ e in
            let same : k ≡ n = cc in
            Contains-append_left (map (line_of_comment h k x) (by_id (comments_in h x))) (listed_from h (suc k) ss) (line_of_comment h n s c)
            (subst (λ i. Contains (map (line_of_comment h k x) (by_id (comments_in h x))) (line_of_comment h i s c)) same
            (subst (λ z. Contains (map (line_of_comment h k x) (by_id (comments_in h x))) (line_of_comment h k z c)) d
            (contains_map (line_of_comment h k x) (by_id (comments_in h x)) c (by_id_in (comments_in h x) c (subst (λ z. Contains (comments_in h z) c) (sym d) m)))))
        | inr d ↦
            Contains-append_right (map (line_of_comment h k x) (by_id (comments_in h x))) (listed_from h (suc k) ss) (line_of_comment h n s c)
            (listed_in (suc k) ss s n c (sym (ap (λ b. if b then Some k else number_from (suc k) ss s) (ne-id_eq x s d)) ∙ e) m)
      ]

  -- each line is that of a comment
  pub record IsLineOf (k : ℕ) (ss : List Identifier) (l : CommentLine) : Type 0 where
    pub section : Identifier
    pub comment : Comment
    pub number_is : number_from k ss section ≡ Some l.number
    pub listed : Contains (comments_in h section) comment
    pub line_is : l ≡ line_of_comment h l.number section comment

  pub listed_from_comment : (k : ℕ) (ss : List Identifier) (l : CommentLine) → AllPairs (λ x y. x ≢ y) ss → Contains (listed_from h k ss) l → IsLineOf k ss l
  listed_from_comment k [] l once c = absurd (contains_none l c)
  listed_from_comment k (s ∷ ss) l once c =
      elim (Contains-append_cases (map (line_of_comment h k s) (by_id (comments_in h s))) (listed_from h (suc k) ss) l c) [
        | inl m ↦
            let f = contains_map_from (line_of_comment h k s) (by_id (comments_in h s)) l m in
            let e : k ≡ l.number = ap (λ (x : CommentLine). x.number) f.2 in
            record {
              section = s;
              comment = f.0;
              number_is = ap (λ b. if b then Some k else number_from (suc k) ss s) (id_eq-refl s) ∙ ap Some e;
              listed = by_id_from (comments_in h s) f.0 f.1;
              line_is = sym f.2 ∙ ap (λ n. line_of_comment h n s f.0) e;
            }
        | inr m ↦
            let r = listed_from_comment (suc k) ss l (all_pairs_tail (λ x y. x ≢ y) s ss once) m in
            let apart : s ≢ r.section = All-contains (λ y. s ≢ y) ss r.section (all_pairs_head (λ x y. x ≢ y) s ss once) (number_in (suc k) ss r.section l.number r.number_is) in
            record {
              section = r.section;
              comment = r.comment;
              number_is = ap (λ b. if b then Some k else number_from (suc k) ss r.section) (ne-id_eq s r.section apart) ∙ r.number_is;
              listed = r.listed;
              line_is = r.line_is;
            }
      ]

  -- what the lines write
  section_lines : (k : ℕ) (s : Identifier) (cs : List Comment) → flat_map (λ (l : CommentLine). l.bytes) (map (line_of_comment h k s) cs) ≡ flat_map (comment_line h k s) cs
  section_lines k s [] = refl
  section_lines k s (c ∷ cs) = ap (λ t. comment_line h k s c ++ t) (section_lines k s cs)

  pub lines_are : (k : ℕ) (ss : List Identifier) → flat_map (λ (l : CommentLine). l.bytes) (listed_from h k ss) ≡ comment_lines h k ss
  lines_are k [] = refl
  lines_are k (s ∷ ss) =
      flat_map-append (λ (l : CommentLine). l.bytes) (map (line_of_comment h k s) (by_id (comments_in h s))) (listed_from h (suc k) ss)
      ∙ (λ i. section_lines k s (by_id (comments_in h s)) i ++ lines_are (suc k) ss i)

  -- the line of an operation is that of the comment that it is
  pub record IsListed (op : Op) (l : CommentLine) : Type 0 where
    pub section : Identifier
    pub comment : Comment
    pub says : comment_in op ≡ Some comment
    pub not_withdrawn : is_withdrawn h comment.id ≡ false
    pub at : commented_section h comment ≡ Some section
    pub number_is : section_number h section ≡ Some l.number
    pub line_is : l ≡ line_of_comment h l.number section comment

  pub line_parts : (op : Op) (l : CommentLine) → listed_line h op ≡ Some l → IsListed op l
  line_parts op l e = by (comment_in op) refl e
    where
      by_number : (c : Comment) (s : Identifier) (o : Option ℕ) → comment_in op ≡ Some c → is_withdrawn h c.id ≡ false → commented_section h c ≡ Some s → section_number h s ≡ o
          → option_map (λ k. line_of_comment h k s c) o ≡ Some l → IsListed op l
      by_number c s None says not_withdrawn at number is = cc
      by_number c s (Some k) says not_withdrawn at number is =
          let line : line_of_comment h k s c ≡ l = cc in
          let n : k ≡ l.number = ap (λ (x : CommentLine). x.number) line in
          record {
            section = s;
            comment = c;
            says = says;
            not_withdrawn = not_withdrawn;
            at = at;
            number_is = number ∙ ap Some n;
            line_is = sym line
                ∙ ap (λ i. line_of_comment h i s c) n;
          }

      by_section : (c : Comment) (o : Option Identifier) → comment_in op ≡ Some c → is_withdrawn h c.id ≡ false → commented_section h c ≡ o
          → (elim o [ None ↦ None | Some s ↦ option_map (λ k. line_of_comment h k s c) (section_number h s) ]) ≡ Some l → IsListed op l
      by_section c None says not_withdrawn at is = cc
      by_section c (Some s) says not_withdrawn at is = by_number c s (section_number h s) says not_withdrawn at refl is

      by : (o : Option Comment) → comment_in op ≡ o → (elim o [ None ↦ None | Some c ↦ if is_withdrawn h c.id then None else line_for h c ]) ≡ Some l → IsListed op l
      by None says is = cc
      by (Some c) says is =
          elim (cases_Bool (is_withdrawn h c.id)) [
            | inl k ↦ let no : None ≡ Some l = sym (ap (λ b. if b then None else line_for h c) k) ∙ is in cc
            | inr k ↦ by_section c (commented_section h c) says k refl (sym (ap (λ b. if b then None else line_for h c) k) ∙ is)
          ]

  line_from : (op : Op) (l : CommentLine) → Contains h op → listed_line h op ≡ Some l → IsLineOf 1 (shown catalogue h) l
  line_from op l m e =
      let i = line_parts op l e in
      record {
        section = i.section;
        comment = i.comment;
        number_is = i.number_is;
        listed = to_comments h i.section i.comment
            (record { op = op; member = m; says = i.says; in_section = section_is h i.comment i.section i.at; not_withdrawn = i.not_withdrawn });
        line_is = i.line_is;
      }

  -- it has the identifier of the operation
  line_own : (op : Op) (l : CommentLine) → listed_line h op ≡ Some l → id_of op ≡ Some l.id
  line_own op l e =
      let i = line_parts op l e in
      (comment_says op i.comment i.says).own ∙ ap (λ (x : CommentLine). Some x.id) (sym i.line_is)

  -- so no two lines have one identifier
  pub lines_apart : (ops : List Op) → AllPairs HaveOtherIds ops → AllPairs (λ (a b : CommentLine). a.id ≢ b.id) (lines_in h ops)
  lines_apart ops o =
      said_pairs (listed_line h) HaveOtherIds (λ (a b : CommentLine). a.id ≢ b.id) (λ a b u v other e f d. other u.id (line_own a u e) (line_own b v f ∙ ap Some (sym d))) ops o

  -- and each comment has its line
  pub line_to : (s : Identifier) (n : ℕ) (c : Comment) → section_number h s ≡ Some n → Contains (comments_in h s) c → Contains (lines_in h h) (line_of_comment h n s c)
  line_to s n c number m =
      let i = from_comments h s c m in
      said_in (listed_line h) h i.op (line_of_comment h n s c) i.member
      (ap (λ o. elim o [ None ↦ None | Some d ↦ if is_withdrawn h d.id then None else line_for h d ]) i.says
      ∙ ap (λ b. if b then None else line_for h c) i.not_withdrawn
      ∙ ap (λ o. elim o [ None ↦ None | Some t ↦ option_map (λ k. line_of_comment h k t c) (section_number h t) ]) (has_section h c s i.in_section)
      ∙ ap (option_map (λ k. line_of_comment h k s c)) number)

  -- the shown sections are shown once
  pub shown_once : Lawful h → AllPairs (λ x y. x ≢ y) (shown catalogue h)
  shown_once w = AllPairs-filter (λ x y. x ≢ y) (λ x. not (is_hidden h x)) (order catalogue h) (order_total catalogue h w).once

  -- the lines of the operations, in whatever order, are the lines of the sections
  same_one : (xs : List Op) → ((op : Op) → Contains xs op → Contains h op) → Lawful h → (l : CommentLine) → Contains (lines_in h xs) l → Contains (listed_comments h) l
  same_one xs f w l m =
      let k = said_from (listed_line h) xs l m in
      let i = line_from k.0 l (f k.0 k.1) k.2 in
      subst (Contains (listed_comments h)) (sym i.line_is) (listed_in 1 (shown catalogue h) i.section l.number i.comment i.number_is i.listed)

  other_one : (xs : List Op) → ((op : Op) → Contains h op → Contains xs op) → Lawful h → (l : CommentLine) → Contains (listed_comments h) l → Contains (lines_in h xs) l
  other_one xs f w l m =
      let i = listed_from_comment 1 (shown catalogue h) l (shown_once w) m in
      let k = said_from (listed_line h) h (line_of_comment h l.number i.section i.comment) (line_to i.section l.number i.comment i.number_is i.listed) in
      said_in (listed_line h) xs k.0 l (f k.0 k.1) (k.2 ∙ ap Some (sym i.line_is))

  pub same_lines : Lawful h → (l : CommentLine)
      → (Contains (lines_in h (reverse h)) l → Contains (listed_comments h) l) × (Contains (listed_comments h) l → Contains (lines_in h (reverse h)) l)
  same_lines w l = (
    same_one (reverse h) (λ op. Contains-permutation (reverse h) h op (IsPermutation-sym h (reverse h) (IsPermutation-reverse h))) w l,
    other_one (reverse h) (λ op. Contains-permutation h (reverse h) op (IsPermutation-reverse h)) w l,
  )
