-- The definitions leave nothing open: bytes are of one kind, and so events leave a relay in one state, with the same
-- replies; where bytes are of some kind, events leave it in some state.
use Rattle.origin_model.proofs.Words.{Delete, Note, List, None, Op, Option, Section, Some, Text, [], ap, append-nil, arith, get_or, length, refl, subst, sym, ℕ, ◌++◌, ◌<◌, ◌∙◌}
use Rattle.origin_model.proofs.Words.{◌∷◌, ◌≡◌}
use Rattle.std.specs.FinMap as finite
use Rattle.origin_model.specs.declared.relay.Event.{Event}
use Rattle.origin_model.specs.declared.relay.Event.TheVariants.{Gone, Opened, Piece}
use Rattle.origin_model.specs.declared.relay.Reply.{Reply}
use Rattle.origin_model.specs.declared.grammar.Grammar.TheVariants.{Version2}
use Rattle.origin_model.specs.frames.Frames.{Framed, IsFrame, IsPartial, Item, Single, Typed, item_bytes}
use Rattle.origin_model.specs.relay.Relay.{Relay, RelayRuns, RelaySteps, StepsPiece, session_opened, reply_of, sessions_after}
use Rattle.origin_model.specs.relay.Session.{Closes, Closing, Frame, Front, Goes, IsKind, Kind, Neither, Next, SessionReading, Taken, TakesAll, TakesByte, TakesOne, closing}
use Rattle.origin_model.specs.relay.Session.{greeting_read, handled}

-- of frames at the front of the same bytes there is one
abbrev pub FramesOnce : Type 0
FramesOnce = (a b : Framed) (r s : List ℕ) → IsFrame Version2 a → IsFrame Version2 b → a.bytes ++ r ≡ b.bytes ++ s → (a.ops ≡ b.ops) × (r ≡ s)

-- the first byte
unfoldable pub first : List ℕ → ℕ
first bytes = get_or bytes 0 0

-- a frame begins with 1 to 5
pub begins_low : (item : Item) (byte : ℕ) (more : List ℕ) → item_bytes item ≡ byte ∷ more → byte < 6
unfolding first
begins_low (Single (Section id left right title)) byte more e = let d : 1 ≡ byte = ap first e in omega (arith, d)
begins_low (Single (Text id section left right ch)) byte more e = let d : 2 ≡ byte = ap first e in omega (arith, d)
begins_low (Single (Delete target)) byte more e = let d : 3 ≡ byte = ap first e in omega (arith, d)
begins_low (Single (Note id named code body)) byte more e = let d : 5 ≡ byte = ap first e in omega (arith, d)
begins_low (Typed run) byte more e = let d : 4 ≡ byte = ap first e in omega (arith, d)

-- so none begins with the closing byte
no_closing : (item : Item) (more : List ℕ) → item_bytes item ≡ closing ++ more → ⊥
no_closing item more e = let l : 0x44 < 6 = begins_low item 0x44 more e in omega (arith, l)

-- a frame is not the closing byte
frame_not_closing : (bytes : List ℕ) (ops : List Op) → IsKind (Frame ops) bytes → bytes ≡ closing → ⊥
frame_not_closing bytes ops f e = no_closing f.item [] (sym f.bytes_are ∙ e)

-- nor does one begin with it
front_not_closing : (bytes : List ℕ) → IsPartial Version2 bytes → bytes ≡ closing → ⊥
front_not_closing bytes p e = no_closing p.is_frame.item p.more (sym p.is_frame.bytes_are ∙ p.front ∙ ap (λ t. t ++ p.more) e)

-- a frame is no proper prefix of one
frame_not_front : FramesOnce → (bytes : List ℕ) (ops : List Op) → IsKind (Frame ops) bytes → IsPartial Version2 bytes → ⊥
frame_not_front one bytes ops f p =
    let none : p.more ≡ [] = (one (record { bytes = bytes; ops = ops }) p.framed p.more [] f p.is_frame (sym p.front ∙ sym (append-nil p.framed.bytes))).1 in
    let long : length p.more ≡ 0 = ap length none in
    let lacks : 0 < length p.more = p.lacks in
    absurd (omega arith)

-- bytes are of one kind
pub one_kind : FramesOnce → (bytes : List ℕ) (j k : Kind) → IsKind j bytes → IsKind k bytes → j ≡ k
one_kind one bytes (Frame ops) (Frame others) h i = ap Frame (one (record { bytes = bytes; ops = ops }) (record { bytes = bytes; ops = others }) [] [] h i refl).0
one_kind one bytes (Frame ops) Closing h i = absurd (frame_not_closing bytes ops h i)
one_kind one bytes (Frame ops) Front h i = absurd (frame_not_front one bytes ops h i)
one_kind one bytes (Frame ops) Neither h i = absurd (i.0 ops h)
one_kind one bytes Closing (Frame ops) h i = absurd (frame_not_closing bytes ops i h)
one_kind one bytes Closing Closing h i = refl
one_kind one bytes Closing Front h i = absurd (front_not_closing bytes i h)
one_kind one bytes Closing Neither h i = absurd (i.2 h)
one_kind one bytes Front (Frame ops) h i = absurd (frame_not_front one bytes ops i h)
one_kind one bytes Front Closing h i = absurd (front_not_closing bytes h i)
one_kind one bytes Front Front h i = refl
one_kind one bytes Front Neither h i = absurd (i.1 h)
one_kind one bytes Neither (Frame ops) h i = absurd (h.0 ops i)
one_kind one bytes Neither Closing h i = absurd (h.2 i)
one_kind one bytes Neither Front h i = absurd (h.1 i)
one_kind one bytes Neither Neither h i = refl

-- one byte has one outcome
byte_once : FramesOnce → (limit : ℕ) (log : List (List ℕ)) (cursor : Option ℕ) (bytes : List ℕ) (a b : Taken) → TakesByte limit log cursor bytes a
    → TakesByte limit log cursor bytes b → a ≡ b
byte_once one limit log None bytes a b h i = h ∙ sym i
byte_once one limit log (Some cursor) bytes a b h i =
    h.2 ∙ ap (λ (k : Kind). handled k limit log cursor bytes) (one_kind one bytes h.0 i.0 h.1 i.1) ∙ sym i.2

-- also where the session is closed
one_once : FramesOnce → (limit byte : ℕ) (log : List (List ℕ)) (next : Next) (a b : Taken) → TakesOne limit byte log next a → TakesOne limit byte log next b → a ≡ b
one_once one limit byte log (Goes reading) a b h i = byte_once one limit log reading.cursor (reading.rest ++ byte ∷ []) a b h i
one_once one limit byte log (Closes reply) a b h i = h ∙ sym i

-- bytes have one outcome
pub all_once : FramesOnce → (limit : ℕ) (bytes : List ℕ) (start a b : Taken) → TakesAll limit bytes start a → TakesAll limit bytes start b → a ≡ b
all_once one limit [] start a b h i = h ∙ sym i
all_once one limit (byte ∷ bytes) start a b h i =
    let middle : h.0 ≡ i.0 = one_once one limit byte start.log start.next h.0 i.0 h.1 i.1 in
    all_once one limit bytes i.0 a b (subst (λ (t : Taken). TakesAll limit bytes t a) middle h.2) i.2

-- a piece has one outcome
piece_once : FramesOnce → (old : Relay) (n : ℕ) (found : Option SessionReading) (bytes : List ℕ) (a b : Relay) (x y : Option Reply) → StepsPiece old n found bytes a x
    → StepsPiece old n found bytes b y → (a ≡ b) × (x ≡ y)
piece_once one old n None bytes a b x y h i = (h.0 ∙ sym i.0, h.1 ∙ sym i.1)
piece_once one old n (Some reading) bytes a b x y h i =
    let same : h.taken ≡ i.taken = all_once one old.limit bytes (record { log = old.log; next = Goes reading }) h.taken i.taken h.takes i.takes in (
      h.new_is ∙ ap (λ (t : Taken). record { limit = old.limit; log = t.log; sessions = sessions_after n old.sessions t.next }) same ∙ sym i.new_is,
      h.reply_is ∙ ap (λ (t : Taken). reply_of n t.next) same ∙ sym i.reply_is,
    )

-- an event has one outcome
pub step_once : FramesOnce → (old : Relay) (event : Event) (a b : Relay) (x y : Option Reply) → RelaySteps old event a x → RelaySteps old event b y → (a ≡ b) × (x ≡ y)
step_once one old (Opened n) a b x y h i = (h.0 ∙ sym i.0, h.1 ∙ sym i.1)
step_once one old (Piece n bytes) a b x y h i = piece_once one old n (finite.get old.sessions n) bytes a b x y h i
step_once one old (Gone n) a b x y h i = (h.0 ∙ sym i.0, h.1 ∙ sym i.1)

-- a run of events ends in one state, with the same replies
pub run_once : FramesOnce → (events : List Event) (start a b : Relay) (as' bs : List (Option Reply)) → RelayRuns start events a as' → RelayRuns start events b bs
    → (a ≡ b) × (as' ≡ bs)
run_once one [] start a b as' bs h i = (h.0 ∙ sym i.0, h.1 ∙ sym i.1)
run_once one (event ∷ events) start a b as' bs h i =
    let both = step_once one start event h.0 i.0 h.1 i.1 h.3 i.3 in
    let rest = run_once one events i.0 a b h.2 i.2 (subst (λ (s : Relay). RelayRuns s events a h.2) both.0 h.4) i.4 in
    (rest.0, h.5 ∙ (λ j. both.1 j ∷ rest.1 j) ∙ sym i.5)

-- bytes are of some kind
abbrev pub SomeKind : Type 0
SomeKind = (bytes : List ℕ) → (kind : Kind) × IsKind kind bytes

-- one byte has an outcome
byte_some : SomeKind → (limit : ℕ) (log : List (List ℕ)) (cursor : Option ℕ) (bytes : List ℕ) → (after : Taken) × TakesByte limit log cursor bytes after
byte_some some limit log None bytes = (greeting_read log bytes, refl)
byte_some some limit log (Some cursor) bytes = let k = some bytes in (handled k.0 limit log cursor bytes, (k.0, k.1, refl))

-- also where the session is closed
one_some : SomeKind → (limit byte : ℕ) (log : List (List ℕ)) (next : Next) → (after : Taken) × TakesOne limit byte log next after
one_some some limit byte log (Goes reading) = byte_some some limit log reading.cursor (reading.rest ++ byte ∷ [])
one_some some limit byte log (Closes reply) = (record { log = log; next = Closes reply }, refl)

-- bytes have an outcome
pub all_some : SomeKind → (limit : ℕ) (bytes : List ℕ) (start : Taken) → (after : Taken) × TakesAll limit bytes start after
all_some some limit [] start = (start, refl)
all_some some limit (byte ∷ bytes) start =
    let middle = one_some some limit byte start.log start.next in
    let rest = all_some some limit bytes middle.0 in
    (rest.0, (middle.0, middle.1, rest.1))

-- a piece has an outcome
piece_some : SomeKind → (old : Relay) (n : ℕ) (found : Option SessionReading) (bytes : List ℕ) → (new : Relay) × (reply : Option Reply) × StepsPiece old n found bytes new reply
piece_some some old n None bytes = (old, None, (refl, refl))
piece_some some old n (Some reading) bytes =
    let t = all_some some old.limit bytes (record { log = old.log; next = Goes reading }) in (
      record { limit = old.limit; log = t.0.log; sessions = sessions_after n old.sessions t.0.next },
      reply_of n t.0.next,
      record { taken = t.0; takes = t.1; new_is = refl; reply_is = refl },
    )

-- an event has an outcome
pub step_some : SomeKind → (old : Relay) (event : Event) → (new : Relay) × (reply : Option Reply) × RelaySteps old event new reply
step_some some old (Opened n) = (record { limit = old.limit; log = old.log; sessions = session_opened n old.sessions }, None, (refl, refl))
step_some some old (Piece n bytes) = piece_some some old n (finite.get old.sessions n) bytes
step_some some old (Gone n) = (record { limit = old.limit; log = old.log; sessions = finite.remove old.sessions n }, None, (refl, refl))

-- a run of events ends in some state
pub run_some : SomeKind → (events : List Event) (start : Relay) → (end : Relay) × (replies : List (Option Reply)) × RelayRuns start events end replies
run_some some [] start = (start, [], (refl, refl))
run_some some (event ∷ events) start =
    let first = step_some some start event in
    let rest = run_some some events first.0 in
    (rest.0, first.1 ∷ rest.1, (first.0, first.1, rest.1, first.2, rest.2, refl))
