-- What a frame still lacks after some of its bytes.
use Rattle.std.specs.Prelude.{◌≡◌, ◌↔◌, ◌⊎◌, ℕ, zero, suc, ◌+◌, ◌-◌, ◌*◌, ◌^◌, ◌<◌, ◌≤◌, min, nat_lt, if◌then◌else◌, All, List, [], ◌∷◌}
use Rattle.std.specs.Prelude.{◌++◌, length, slice_get, false, Option, Some}
use Rattle.std.specs.Char.{IsScalar}
use Rattle.std.specs.Int.{to_be_bytes, w16}
use Rattle.std.specs.Str.{IsUtf8}
use Rattle.fugue_ids.specs.Identifiers.{Identifier}
use Rattle.fugue_ids.specs.Titles.{has_line_end}
use Rattle.fugue_ids.specs.declared.limits.TheConstants.{LONGEST_BODY, LONGEST_TITLE}
use Rattle.fugue_ids.specs.declared.op.Op.{Op}
use Rattle.origin_model.specs.declared.grammar.Grammar.{Grammar}
use Rattle.origin_model.specs.frames.Frames.{body_bytes, frame, id_bytes, item_bytes, names_bytes, origin_bytes, scalar_bytes, title_bytes}
use Rattle.origin_model.specs.frames.Frames.{AreNames, HasFrame, IsBody, IsByte, IsFrame, IsIdentifier, IsItem, IsFrameOrigin, IsPartial}
use Rattle.origin_model.specs.frames.Frames.{IsTitle, Item}
use Rattle.op_frame.specs.declared.due.Due.{Due}
use Rattle.op_frame.specs.declared.due.Due.TheVariants.{Kind, Run, Fields}
use Rattle.op_frame.specs.declared.due.Judged.{Judged}
use Rattle.op_frame.specs.declared.due.Judged.TheVariants.{Done, Front, Bad}
use Rattle.op_frame.specs.declared.due.Last.{Last}
use Rattle.op_frame.specs.declared.due.Last.TheVariants.{Nothing, Scalars, Count, Title, Text, Names, Code, Length, Body}
use Rattle.op_frame.specs.declared.encoding.TheConstants.{LONGEST_RUN}
use Rattle.op_frame.specs.declared.grown.Grown.{Grown}
use Rattle.op_frame.specs.declared.grown.Grown.TheVariants.{Frame as IsWhole, Front as IsFront, Bad as IsNeither}

-- the bytes are a frame
abbrev pub IsFrameOf : Grammar → List ℕ → Type 0
IsFrameOf grammar bytes = (ops : List Op) × IsFrame grammar (record { bytes = bytes; ops = ops })

-- the bytes are one operation's own frame
abbrev pub IsOwnFrame : List ℕ → Type 0
IsOwnFrame bytes = (op : Op) × HasFrame op × (bytes ≡ frame op)

-- the bytes begin as the frame of a Section or of a Note does: its title or its body takes memory
abbrev pub AsksMemory : List ℕ → Type 0
AsksMemory bytes = (slice_get bytes 0 ≡ Some 1) ⊎ (slice_get bytes 0 ≡ Some 5)

-- what the bytes are: a frame, a proper front of one, or neither
abbrev pub IsFrameStage : Grown → Grammar → List ℕ → Type 0
IsFrameStage IsWhole grammar bytes = IsFrameOf grammar bytes
IsFrameStage IsFront grammar bytes = IsPartial grammar bytes
IsFrameStage IsNeither grammar bytes = (IsFrameOf grammar bytes → ⊥) × (IsPartial grammar bytes → ⊥)

-- the first bytes of a frame of a grammar
pub record FrontBytes : Type 0 where
  pub grammar : Grammar
  pub bytes : List ℕ

-- the bytes are those of a field, and then of what follows it
abbrev pub Then : (List ℕ → Type 0) → (List ℕ → Type 0) → List ℕ → Type 0
Then Field Rest bytes = (field rest : List ℕ) × Field field × Rest rest × (bytes ≡ field ++ rest)

-- the bytes of an identifier
abbrev pub IsIdentifierBytes : List ℕ → Type 0
IsIdentifierBytes bytes = (id : Identifier) × IsIdentifier id × (bytes ≡ id_bytes id)

-- the bytes of an origin
abbrev pub IsOriginBytes : List ℕ → Type 0
IsOriginBytes bytes = (origin : Option Identifier) × IsFrameOrigin origin × (bytes ≡ origin_bytes origin)

-- the bytes of a Unicode scalar value
abbrev pub IsScalarBytes : List ℕ → Type 0
IsScalarBytes bytes = (ch : ℕ) × IsScalar ch × (bytes ≡ scalar_bytes ch)

-- the bytes of the names of a Note
abbrev pub AreNamesBytes : List ℕ → Type 0
AreNamesBytes bytes = (named : List Identifier) × AreNames named × (bytes ≡ names_bytes named)

-- the byte of the code of a Note
abbrev pub IsCodeBytes : List ℕ → Type 0
IsCodeBytes bytes = (code : ℕ) × IsByte code × (bytes ≡ code ∷ [])

-- the bytes of the body of a Note
abbrev pub IsBodyBytes : List ℕ → Type 0
IsBodyBytes bytes = (body : List ℕ) × IsBody body × (bytes ≡ body_bytes body)

-- no bytes
abbrev pub IsNothing : List ℕ → Type 0
IsNothing bytes = bytes ≡ []

-- the text of a title, from one of its characters on
abbrev pub IsTitleEnd : ℕ → List ℕ → Type 0
IsTitleEnd len bytes = IsUtf8 bytes × (has_line_end bytes ≡ false) × (length bytes ≡ len)

-- a body, from one of its bytes on
abbrev pub IsBodyEnd : ℕ → List ℕ → Type 0
IsBodyEnd len bytes = All IsByte bytes × (length bytes ≡ len)

-- so many fields of one kind, and then what follows them
abbrev pub Several : ℕ → (List ℕ → Type 0) → (List ℕ → Type 0) → List ℕ → Type 0
Several zero Field Rest = Rest
Several (suc n) Field Rest = Then Field (Several n Field Rest)

-- how many scalars there are, at least two and at most so many, and these
pub record IsCounted (most : ℕ) (bytes : List ℕ) : Type 0 where
  pub count : ℕ
  pub some : 2 ≤ count
  pub few : count ≤ most
  pub scalars : List ℕ
  pub are_scalars : Several count IsScalarBytes IsNothing scalars
  pub split : bytes ≡ to_be_bytes w16 count ++ scalars

-- the bytes of the last field
abbrev pub IsLast : Last → List ℕ → Type 0
IsLast Nothing bytes = IsNothing bytes
IsLast (Scalars n) bytes = Several n IsScalarBytes IsNothing bytes
IsLast (Count most) bytes = IsCounted most bytes
IsLast Title bytes = (title : List ℕ) × IsTitle title × (bytes ≡ title_bytes title)
IsLast (Text len) bytes = IsTitleEnd len bytes
IsLast Names bytes = Then AreNamesBytes (Then IsCodeBytes IsBodyBytes) bytes
IsLast Code bytes = Then IsCodeBytes IsBodyBytes bytes
IsLast Length bytes = IsBodyBytes bytes
IsLast (Body len) bytes = IsBodyEnd len bytes

-- the bytes of identifiers, then of origins, and of the last field
abbrev pub AreFields : (identifiers origins : ℕ) → Last → List ℕ → Type 0
AreFields identifiers origins last bytes = Several identifiers IsIdentifierBytes (Several origins IsOriginBytes (IsLast last)) bytes

-- how many Texts a run can have that begins with this counter
abbrev pub most_from : ℕ → ℕ
most_from counter = min LONGEST_RUN (2 ^ 32 - counter)

-- a run after its first byte: its first identifier bounds how many Texts it has
pub record IsRunAfter (bytes : List ℕ) : Type 0 where
  pub id : Identifier
  pub is_identifier : IsIdentifier id
  pub rest : List ℕ
  pub fields : AreFields 1 2 (Count (most_from id.counter)) rest
  pub split : bytes ≡ id_bytes id ++ rest

-- the bytes are what is due
abbrev pub Completes : Due → List ℕ → Type 0
Completes (Kind grammar) bytes = (item : Item) × IsItem grammar item × (bytes ≡ item_bytes item)
Completes Run bytes = IsRunAfter bytes
Completes (Fields identifiers origins last) bytes = AreFields identifiers origins last bytes

-- there is something that the last field can be: a text or body that is due is not empty and not too long, and there
-- are some scalars and not too many
abbrev pub IsSoundLast : Last → Type 0
IsSoundLast (Text len) = (0 < len) × (len ≤ LONGEST_TITLE)
IsSoundLast (Scalars n) = 0 < n
IsSoundLast (Count most) = (2 ≤ most) × (most ≤ LONGEST_RUN)
IsSoundLast Title = Unit {0}
IsSoundLast Nothing = Unit {0}
IsSoundLast Names = Unit {0}
IsSoundLast Code = Unit {0}
IsSoundLast Length = Unit {0}
IsSoundLast (Body len) = (0 < len) × (len ≤ LONGEST_BODY)

-- what is due is part of some frame
abbrev pub IsSoundDue : Due → Type 0
IsSoundDue (Kind grammar) = Unit {0}
IsSoundDue Run = Unit {0}
IsSoundDue (Fields identifiers origins last) = IsSoundLast last

-- how many bytes the field has that is due, or its first part
abbrev pub last_size : Last → ℕ
last_size Nothing = 1
last_size (Scalars n) = 3
last_size (Count most) = 2
last_size Title = 2
last_size (Text len) = len
last_size Names = 1
last_size Code = 1
last_size Length = 2
last_size (Body len) = len

-- how many bytes the next field takes at least
abbrev pub field_size : Due → ℕ
field_size (Kind grammar) = 1
field_size Run = 8
field_size (Fields (suc identifiers) origins last) = 8
field_size (Fields zero (suc origins) last) = 1
field_size (Fields zero zero last) = last_size last

-- what is due after some bytes of what was due
pub record LeavesDue (bytes : List ℕ) (due next : Due) : Type 0 where
  pub rest : (more : List ℕ) → Completes due (bytes ++ more) ↔ Completes next more
  pub sound : IsSoundDue next

-- some more bytes are what is due
pub record IsDueFront (due : Due) (bytes : List ℕ) : Type 0 where
  pub more : List ℕ
  pub lacks : 0 < length more
  pub completes : Completes due (bytes ++ more)

-- no bytes after these make them what is due
abbrev pub NeverCompletes : Due → List ℕ → Type 0
NeverCompletes due bytes = (more : List ℕ) → Completes due (bytes ++ more) → ⊥

-- what the bytes of a field are: all of it, some of it, or none
abbrev pub IsJudged : Judged → Due → List ℕ → Type 0
IsJudged (Done next) due bytes = LeavesDue bytes due next
IsJudged Front due bytes = (length bytes < field_size due) × IsDueFront due bytes
IsJudged Bad due bytes = NeverCompletes due bytes

-- the number of three bytes
abbrev pub scalar_of_bytes : (high middle low : ℕ) → ℕ
scalar_of_bytes high middle low = high * 65536 + middle * 256 + low

-- how many bytes a character has that begins with this byte and is not ASCII
abbrev pub width_of : ℕ → ℕ
width_of lead = if nat_lt lead 224 then 2 else (if nat_lt lead 240 then 3 else 4)

-- a text of so many bytes, or nothing
abbrev pub text_due : ℕ → Due
text_due zero = Fields 0 0 Nothing
text_due (suc len) = Fields 0 0 (Text (suc len))

-- a body of so many bytes, or nothing
abbrev pub body_due : ℕ → Due
body_due zero = Fields 0 0 Nothing
body_due (suc len) = Fields 0 0 (Body (suc len))

-- so many scalars, or nothing
abbrev pub scalars_due : ℕ → Due
scalars_due zero = Fields 0 0 Nothing
scalars_due (suc n) = Fields 0 0 (Scalars (suc n))

-- after these bytes, and so many of the field that is due, this makes a frame
pub record Awaits (grammar : Grammar) (due : Due) (before : List ℕ) (came : ℕ) : Type 0 where
  pub rest : (more : List ℕ) → IsFrameOf grammar (before ++ more) ↔ Completes due more
  pub short : came < field_size due
  pub sound : IsSoundDue due

-- nothing is due after a frame
abbrev pub grown_by : Due → Grown
grown_by (Fields zero zero Nothing) = IsWhole
grown_by due = IsFront

-- the bytes, with one more unless it is none of a frame's
abbrev pub grown_to : Grown → List ℕ → ℕ → List ℕ
grown_to IsNeither bytes byte = bytes
grown_to grown bytes byte = bytes ++ byte ∷ []
