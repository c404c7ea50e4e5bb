-- The frames of a part of a file, a piece at a time.
use Rattle.std.proofs.Common.{◌≡◌, ◌≢◌, ◌⊎◌, inl, inr, ℕ, ◌+◌, ◌-◌, ◌<◌, ◌≤◌, min, List, [], ◌∷◌, ◌++◌, length, take, drop, refl, ap, sym, subst, ◌∙◌, arith, append_assoc}
use Rattle.std.proofs.Common.{length-append, length-drop}
use Rattle.std.specs.Prelude.{Option, Some, None, IfSome, Bool, true}
use Rattle.std.proofs.Math.Seq.{take-add}
use Rattle.std.proofs.lemmas.Grind.{flat_map-append}
use Rattle.std.proofs.lemmas.List.Elements.{All-append, All-nil}
use Rattle.std.proofs.lemmas.List.{drop-append-le, drop-take, length-take, nil_from_length}
use Rattle.fugue_ids.specs.declared.op.Op.{Op}
use Rattle.outer_ports.specs.disk.Moments.{History}
use Rattle.origin_model.specs.declared.grammar.Grammar.{Grammar}
use Rattle.origin_model.specs.frames.Frames.{BadFrame, CutShort, End, EndsSo, Framed, IsBad, IsFrame, IsPartial, Reads, Starts, Whole}
use Rattle.op_frame.proofs.FrameLemmas.{bad_goes_on}
use Rattle.op_frame.proofs.ReadingLemmas.{reads_once}
use Rattle.origin_model.specs.edits.State.{State}
use Rattle.origin_model.specs.taking.Taking.{Held}
use Rattle.origin_model.proofs.SharedLemmas.{bytes_of}
use Rattle.replica_file.specs.Loading.{IsSameButHeld}
use Rattle.replica_file.specs.Pieces.{AreBad, Lacks, TakesInPiece}
use Rattle.replica_file.specs.Slots.{EndsOff, HasNoFrames, TakesFrames, TakesInFrames}
use Rattle.replica_file.specs.Wanting.{AreFilePieces, AreWholeFrames, BeginsPiece, ForContent, ForOperation, ForPiece, IsWanting, file_part}
use Rattle.replica_file.proofs.LoadingLemmas.{feeds_none, feeds_then, same_then}
use Rattle.op_frame.proofs.StepLemmas.{asks_too, front_short}
use Rattle.replica_file.proofs.ReadingLemmas.{drop_twice}

module _ (grammar : Grammar) where
  pub starts_none : (bytes : List ℕ) → Starts grammar bytes [] bytes
  starts_none bytes = record { found = []; are_frames = All-nil (IsFrame grammar); ops_are = refl; split = refl }

  -- frames, and frames after them
  starts_then : (bytes rest last : List ℕ) (ops more : List Op) → Starts grammar bytes ops rest → Starts grammar rest more last → Starts grammar bytes (ops ++ more) last
  starts_then bytes rest last ops more one two = record {
    found = one.found ++ two.found;
    are_frames = All-append (IsFrame grammar) one.found two.found one.are_frames two.are_frames;
    ops_are = (λ i. one.ops_are i ++ two.ops_are i) ∙ sym (flat_map-append (λ (framed : Framed). framed.ops) one.found two.found);
    split = one.split ∙ ap (λ (r : List ℕ). bytes_of one.found ++ r) two.split ∙ sym (append_assoc (bytes_of one.found) (bytes_of two.found) last)
        ∙ ap (λ (l : List ℕ). l ++ last) (sym (flat_map-append (λ (framed : Framed). framed.bytes) one.found two.found));
  }

  -- the same frames where more bytes follow
  starts_further : (bytes rest more : List ℕ) (ops : List Op) → Starts grammar bytes ops rest → Starts grammar (bytes ++ more) ops (rest ++ more)
  starts_further bytes rest more ops one = record {
    found = one.found;
    are_frames = one.are_frames;
    ops_are = one.ops_are;
    split = ap (λ (l : List ℕ). l ++ more) one.split ∙ append_assoc (bytes_of one.found) rest more;
  }

  -- bytes that end off are no whole frames
  pub never_whole : (bytes : List ℕ) → EndsOff grammar bytes → (all : List Op) → Reads grammar bytes all Whole → ⊥
  never_whole bytes off all whole = by_end off.ends
    where
      never : (end : End) → (end ≡ Whole → ⊥) → EndsSo grammar off.rest (length (bytes_of off.starts.found)) end → ⊥
      never end differs ends = differs ((reads_once grammar bytes off.ops all end Whole (record {
        found = off.starts.found;
        are_frames = off.starts.are_frames;
        ops_are = off.starts.ops_are;
        rest = off.rest;
        split = off.starts.split;
        ends = ends;
      }) whole).1)

      by_end : ((off.rest ≢ []) × IsPartial grammar off.rest) ⊎ IsBad grammar off.rest → ⊥
      by_end (inl partial) = never (CutShort (length (bytes_of off.starts.found))) (λ e. cc e) (refl, partial.0, partial.1)
      by_end (inr bad) = never (BadFrame (length (bytes_of off.starts.found))) (λ e. cc e) (refl, bad)

  module _ (before after : List ℕ → Type 0) (bytes : List ℕ) (ops : List Op) (hold most : ℕ) (s : Held) (places : Type 0) where
    -- memory runs out as well where more bytes follow
    wanting_further : (more : List ℕ) → ((rest : List ℕ) → before rest → after (rest ++ more)) → IsWanting grammar before bytes ops hold most s places
        → IsWanting grammar after (bytes ++ more) ops hold most s places
    wanting_further more begins (ForPiece rest starts begin) = ForPiece (rest ++ more) (starts_further bytes rest more ops starts) (begins rest begin)
    wanting_further more begins (ForContent rest starts first) = ForContent (rest ++ more) (starts_further bytes rest more ops starts) (asks_too rest more first)
    wanting_further more begins (ForOperation op later behind starts found kept) =
        ForOperation op later (behind ++ more) (starts_further bytes behind more (ops ++ op ∷ later) starts) found kept

    -- and after other operations
    wanting_then : (whole : List ℕ) (earlier : List Op) → Starts grammar whole earlier bytes → ((rest : List ℕ) → before rest → after rest)
        → IsWanting grammar before bytes ops hold most s places
        → IsWanting grammar after whole (earlier ++ ops) hold most s places
    wanting_then whole earlier one begins (ForPiece rest starts begin) = ForPiece rest (starts_then whole bytes rest earlier ops one starts) (begins rest begin)
    wanting_then whole earlier one begins (ForContent rest starts first) = ForContent rest (starts_then whole bytes rest earlier ops one starts) first
    wanting_then whole earlier one begins (ForOperation op later behind starts found kept) =
        ForOperation op later behind
        (subst (λ (all : List Op). Starts grammar whole all behind) (sym (append_assoc earlier ops (op ∷ later)))
        (starts_then whole bytes behind earlier (ops ++ op ∷ later) one starts)) found kept

module _ (grammar : Grammar) (bytes : List ℕ) (at left size : ℕ) (piece : List ℕ) (is : piece ≡ take size (drop at bytes)) (within : size ≤ left) where
  more : List ℕ
  more = take (left - size) (drop size (drop at bytes))

  part_is : file_part bytes at left ≡ piece ++ more
  unfolding more
  part_is =
      ap (λ (n : ℕ). take n (drop at bytes)) {x = left} {y = size + (left - size)} (omega (arith, within)) ∙ take-add size (left - size) (drop at bytes)
      ∙ ap (λ (l : List ℕ). l ++ take (left - size) (drop size (drop at bytes))) (sym is)

  -- the file ends too early
  pub piece_short : length piece < size → length (drop at bytes) < left
  piece_short short = omega (arith, ap length is, length-take size (drop at bytes), within, short)

  -- no frame stands in the piece
  pub piece_bad : AreBad grammar piece → EndsOff grammar (file_part bytes at left)
  piece_bad bad = subst (EndsOff grammar) (sym part_is) (record {
    ops = bad.ops;
    rest = bad.rest ++ more;
    starts = starts_further grammar piece bad.rest more bad.ops bad.starts;
    ends = inr (bad_goes_on grammar bad.rest more bad.bad);
  })

  -- not even one frame is whole in a piece that is long enough for each, or in what is left
  pub piece_none : (ops : List Op) → AreWholeFrames grammar piece 0 ops → size ≤ length piece → 0 < size → size ≡ min left 65536 → EndsOff grammar (file_part bytes at left)
  piece_none ops whole long some smaller = by_ends whole.ends
    where
      by_ends : (drop 0 piece ≡ []) ⊎ IsPartial grammar (drop 0 piece) → EndsOff grammar (file_part bytes at left)
      by_ends (inl none) = absurd (omega (arith, ap length none, long, some))
      by_ends (inr partial) =
          let short : length piece < 4096 = front_short grammar piece partial in
          let all : size ≡ left = omega (arith, long, short, smaller) in
          subst (EndsOff grammar) (is ∙ ap (λ (n : ℕ). take n (drop at bytes)) all) (record {
            ops = [];
            rest = piece;
            starts = starts_none grammar piece;
            ends = inl ((λ none. omega (arith, ap length none, long, some)), partial);
          })

  -- whole frames of the piece are some of the part
  pub piece_took : (len : ℕ) (was now : Bool) (old new : State) → TakesInPiece grammar piece len was old now new → TakesInFrames grammar bytes at left len was old now new
  piece_took len was now old new took = record {
    ops = took.ops;
    inside = omega (arith, took.whole.inside, ap length part_is, length-append piece more);
    starts = subst (λ (l : List ℕ). Starts grammar l took.ops (drop len l)) (sym part_is)
        (subst (Starts grammar (piece ++ more) took.ops) (sym (drop-append-le len piece more took.whole.inside))
        (starts_further grammar piece (drop len piece) more took.ops took.whole.starts));
    feeds = took.feeds;
  }

  -- memory ran out in the piece
  pub piece_lacks : (was : Bool) (old : State) → Lacks grammar (λ rest. rest ≡ piece) piece was old
      → Lacks grammar (λ rest. rest ≡ file_part bytes at left) (file_part bytes at left) was old
  piece_lacks was old lacks = record {
    ops = lacks.ops;
    now = lacks.now;
    new = lacks.new;
    feeds = lacks.feeds;
    same = lacks.same;
    wants = subst (λ (l : List ℕ). IsWanting grammar (λ rest. rest ≡ file_part bytes at left) l lacks.ops lacks.new.hold lacks.new.most lacks.new.held (lacks.now ≡ true))
        (sym part_is)
        (wanting_further grammar (λ rest. rest ≡ piece) (λ rest. rest ≡ file_part bytes at left) piece lacks.ops lacks.new.hold lacks.new.most lacks.new.held
        (lacks.now ≡ true) more
        (λ rest whole. ap (λ (l : List ℕ). l ++ more) whole ∙ sym part_is) lacks.wants);
  }

  -- whole frames of a piece
  pub piece_whole : (len : ℕ) (ops : List Op) → AreWholeFrames grammar piece len ops → size ≡ min left 65536
      → (found : List Op) × AreWholeFrames grammar (file_part bytes at (min left 65536)) len found
  piece_whole len ops whole smaller =
      (ops, subst (λ (l : List ℕ). AreWholeFrames grammar l len ops) (is ∙ ap (λ (n : ℕ). take n (drop at bytes)) smaller) whole)

-- the pieces of a part that were read
pub record Pieces (grammar : Grammar) (bytes : List ℕ) (at len taken : ℕ) : Type 0 where
  pub pieces : List ℕ
  pub are_pieces : AreFilePieces grammar bytes at len pieces taken

pub no_pieces : (grammar : Grammar) (bytes : List ℕ) (at len : ℕ) → Pieces grammar bytes at len 0
no_pieces grammar bytes at len = record { pieces = []; are_pieces = refl }

pub one_piece_more : (grammar : Grammar) (bytes : List ℕ) (at len taken n : ℕ) → Pieces grammar bytes at len taken
    → ((ops : List Op) × AreWholeFrames grammar (file_part bytes (at + taken) (min (len - taken) 65536)) n ops) → Pieces grammar bytes at len (taken + n)
one_piece_more grammar bytes at len taken n read whole = record { pieces = n ∷ read.pieces; are_pieces = (taken, refl, whole, read.are_pieces) }

module _ (grammar : Grammar) (bytes : List ℕ) (at len taken : ℕ) (within : taken ≤ len) where
  -- what is left of a part
  left_is : file_part bytes (at + taken) (len - taken) ≡ drop taken (file_part bytes at len)
  left_is =
      ap (take (len - taken)) (sym (drop_twice taken at bytes)) ∙ sym (drop-take taken (len - taken) (drop at bytes))
      ∙ ap (λ (n : ℕ). drop taken (take n (drop at bytes))) {x = taken + (len - taken)} {y = len} (omega (arith, within))

  pub frames_more : (l : ℕ) (a b c : Bool) (r s t : State) → TakesInFrames grammar bytes at len taken a r b s → TakesInFrames grammar bytes (at + taken) (len - taken) l b s c t
      → TakesInFrames grammar bytes at len (taken + l) a r c t
  frames_more l a b c r s t one two =
      let behind : Starts grammar (drop taken (file_part bytes at len)) two.ops (drop l (drop taken (file_part bytes at len))) =
      subst (λ (x : List ℕ). Starts grammar x two.ops (drop l x)) left_is two.starts in
      record {
        ops = one.ops ++ two.ops;
        inside = omega (arith, one.inside, two.inside, ap length left_is, length-drop taken (file_part bytes at len));
        starts = starts_then grammar (file_part bytes at len) (drop taken (file_part bytes at len)) (drop (taken + l) (file_part bytes at len)) one.ops two.ops one.starts
            (subst (Starts grammar (drop taken (file_part bytes at len)) two.ops) (drop_twice l taken (file_part bytes at len)) behind);
        feeds = feeds_then a b c r s t one.ops two.ops one.feeds two.feeds;
      }

  pub frames_bad : (a b : Bool) (r s : State) → TakesInFrames grammar bytes at len taken a r b s → HasNoFrames grammar bytes (at + taken) (len - taken)
      → HasNoFrames grammar bytes at len
  frames_bad a b r s one (inl short) = inl (omega (arith, short, length-drop (at + taken) bytes, length-drop at bytes))
  frames_bad a b r s one (inr off) =
      let behind : EndsOff grammar (drop taken (file_part bytes at len)) = subst (EndsOff grammar) left_is off in
      inr (record {
        ops = one.ops ++ behind.ops;
        rest = behind.rest;
        starts = starts_then grammar (file_part bytes at len) (drop taken (file_part bytes at len)) behind.rest one.ops behind.ops one.starts behind.starts;
        ends = behind.ends;
      })

  -- memory ran out in what is left
  pub frames_lacks : (a b : Bool) (r s : State) → IsSameButHeld r s → TakesInFrames grammar bytes at len taken a r b s → Pieces grammar bytes at len taken
      → Lacks grammar (λ rest. rest ≡ file_part bytes (at + taken) (len - taken)) (file_part bytes (at + taken) (len - taken)) b s
      → Lacks grammar (BeginsPiece grammar bytes at len) (file_part bytes at len) a r
  frames_lacks a b r s same one pieces lacks = record {
    ops = one.ops ++ lacks.ops;
    now = lacks.now;
    new = lacks.new;
    feeds = feeds_then a b lacks.now r s lacks.new one.ops lacks.ops one.feeds lacks.feeds;
    same = same_then r s lacks.new same lacks.same;
    wants = wanting_then grammar (λ rest. rest ≡ file_part bytes (at + taken) (len - taken)) (BeginsPiece grammar bytes at len)
        (file_part bytes (at + taken) (len - taken)) lacks.ops
        lacks.new.hold lacks.new.most lacks.new.held (lacks.now ≡ true) (file_part bytes at len) one.ops
        (subst (Starts grammar (file_part bytes at len) one.ops) (sym left_is) one.starts)
        (λ rest whole. record { taken = taken; pieces = pieces.pieces; are_pieces = pieces.are_pieces; rest_is = whole ∙ left_is }) lacks.wants;
  }

pub frames_begin : (grammar : Grammar) (bytes : List ℕ) (at len : ℕ) (a : Bool) (r : State) → TakesInFrames grammar bytes at len 0 a r a r
frames_begin grammar bytes at len a r = record { ops = []; inside = omega arith; starts = starts_none grammar (file_part bytes at len); feeds = feeds_none a r }

pub frames_over : (grammar : Grammar) (bytes : List ℕ) (at len taken : ℕ) (a b : Bool) (r s : State) → taken ≤ len → len ≤ taken → TakesInFrames grammar bytes at len taken a r b s
    → TakesFrames grammar bytes at len a r b s
frames_over grammar bytes at len taken a b r s within all one =
    let long : length (file_part bytes at len) ≡ len = omega (arith, one.inside, within, all, length-take len (drop at bytes)) in
    let none : drop taken (file_part bytes at len) ≡ [] =
    nil_from_length (drop taken (file_part bytes at len)) (omega (arith, length-drop taken (file_part bytes at len), long, all)) in
    record {
      ops = one.ops;
      long = long;
      reads = record {
        found = one.starts.found;
        are_frames = one.starts.are_frames;
        ops_are = one.starts.ops_are;
        rest = drop taken (file_part bytes at len);
        split = one.starts.split;
        ends = none;
      };
      feeds = one.feeds;
    }

-- a fact on the bytes of a disk that was only looked at, from one and two others
pub specified_one : {P Q : History → Type 0} (o : Option History) → ((h : History) → P h → Q h) → IfSome o P → IfSome o Q
specified_one None join p = tt
specified_one (Some h) join p = join h p

pub specified_two : {P Q R : History → Type 0} (o q : Option History) → q ≡ o → ((h : History) → P h → Q h → R h) → IfSome o P → IfSome q Q → IfSome o R
specified_two None q same join p r = tt
specified_two {Q = Q} (Some h) q same join p r = join h p (subst (λ s. IfSome s Q) same r)

pub specified_all : {P : History → Type 0} (o : Option History) → ((h : History) → P h) → IfSome o P
specified_all None all = tt
specified_all (Some h) all = all h

pub specified_three : {P Q R S : History → Type 0} (o q : Option History) → q ≡ o → ((h : History) → P h → Q h → R h → S h) → IfSome o P → IfSome o Q → IfSome q R → IfSome o S
specified_three None q same join p r s = tt
specified_three {R = R} (Some h) q same join p r s = join h p r (subst (λ t. IfSome t R) same s)
