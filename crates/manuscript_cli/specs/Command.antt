-- Which words ask for which command. Words are lists of bytes.
use Rattle.std.specs.Prelude.{◌≡◌, ◌≢◌, ◌⊎◌, ℕ, ◌≤◌, ◌-◌, false, List, [], ◌∷◌, codes, length, slice_get, Option, Some, None, IfSome}
use Rattle.fugue_ids.specs.Titles.{has_line_end}
use Rattle.fugue_ids.specs.declared.limits.TheConstants.{GREATEST_HOLD, LONGEST_BODY, LONGEST_TITLE}
use Rattle.passage_remarks.specs.Spelling.{IsSpelled}
use Rattle.version_views.specs.declared.limits.TheConstants.{LONGEST_NAME}
use Rattle.outer_ports.specs.declared.disk.file_disk.Opening.{Opening}
use Rattle.outer_ports.specs.declared.disk.file_disk.Opening.TheVariants.{Reading, Writing, Creating}
use Rattle.bulk_world.specs.declared.making.TheConstants.{MOST_TURNS}
use Rattle.manuscript_cli.specs.Number.{IsNumber}
use Rattle.manuscript_cli.specs.declared.command.Command.{Command}
use Rattle.manuscript_cli.specs.declared.command.Command.TheVariants.{Show, New, Edit, Print, Take, Send, Merge, Relay, Sync, Bulk, Why}
use Rattle.manuscript_cli.specs.declared.command.Command.TheVariants.{Check, Move, Retitle, Arrange, Authors, Changes, Past, Moments}
use Rattle.manuscript_cli.specs.declared.command.Command.TheVariants.{Revise, ReviseSince, List as ListCommand, Comment, Comments, Remarks}
use Rattle.manuscript_cli.specs.declared.command.Command.TheVariants.{Withdraw, Remark, Version, Versions, View, About}
use Rattle.manuscript_cli.specs.declared.words.TheConstants.{GREATEST_CURSOR, GREATEST_MOMENT, GREATEST_PLACE, GREATEST_PORT}
use Rattle.manuscript_cli.specs.declared.words.TheConstants.{GREATEST_REMARK, GREATEST_REPLICA, GREATEST_SEED, MOST_SESSIONS, USUAL_HOLD}

-- `show HOLD`
pub record NamesShow (words : List (List ℕ)) (hold : ℕ) : Type 0 where
  pub word : List ℕ
  pub words_are : words ≡ codes "show" ∷ word ∷ []
  pub number : IsNumber word 1 GREATEST_HOLD hold

-- `new FILE REPLICA HOLD`
pub record NamesNew (words : List (List ℕ)) (replica hold : ℕ) : Type 0 where
  pub file : List ℕ
  pub some : file ≢ []
  pub number_word : List ℕ
  pub hold_word : List ℕ
  pub words_are : words ≡ codes "new" ∷ file ∷ number_word ∷ hold_word ∷ []
  pub replica_is : IsNumber number_word 1 GREATEST_REPLICA replica
  pub hold_is : IsNumber hold_word 1 GREATEST_HOLD hold

-- a name, and FILE
pub record NamesFile (name : List ℕ) (words : List (List ℕ)) : Type 0 where
  pub file : List ℕ
  pub some : file ≢ []
  pub words_are : words ≡ name ∷ file ∷ []

-- a name, FILE, and another file
pub record NamesTwo (name : List ℕ) (words : List (List ℕ)) : Type 0 where
  pub file : List ℕ
  pub some : file ≢ []
  pub other : List ℕ
  pub some_other : other ≢ []
  pub words_are : words ≡ name ∷ file ∷ other ∷ []

-- `relay PORT SESSIONS`
pub record NamesRelay (words : List (List ℕ)) (port sessions : ℕ) : Type 0 where
  pub port_word : List ℕ
  pub sessions_word : List ℕ
  pub words_are : words ≡ codes "relay" ∷ port_word ∷ sessions_word ∷ []
  pub port_is : IsNumber port_word 1 GREATEST_PORT port
  pub sessions_are : IsNumber sessions_word 1 MOST_SESSIONS sessions

-- `sync FILE PORT CURSOR`
pub record NamesSync (words : List (List ℕ)) (port cursor : ℕ) : Type 0 where
  pub file : List ℕ
  pub some : file ≢ []
  pub port_word : List ℕ
  pub cursor_word : List ℕ
  pub words_are : words ≡ codes "sync" ∷ file ∷ port_word ∷ cursor_word ∷ []
  pub port_is : IsNumber port_word 1 GREATEST_PORT port
  pub cursor_is : IsNumber cursor_word 0 GREATEST_CURSOR cursor

-- `bulk SEED COUNT`
pub record NamesBulk (words : List (List ℕ)) (seed count : ℕ) : Type 0 where
  pub seed_word : List ℕ
  pub count_word : List ℕ
  pub words_are : words ≡ codes "bulk" ∷ seed_word ∷ count_word ∷ []
  pub seed_is : IsNumber seed_word 0 GREATEST_SEED seed
  pub count_is : IsNumber count_word 1 MOST_TURNS count

-- `why FILE K P Q`
pub record NamesWhy (words : List (List ℕ)) (k p q : ℕ) : Type 0 where
  pub file : List ℕ
  pub some : file ≢ []
  pub section_word : List ℕ
  pub first_word : List ℕ
  pub second_word : List ℕ
  pub words_are : words ≡ codes "why" ∷ file ∷ section_word ∷ first_word ∷ second_word ∷ []
  pub section_is : IsNumber section_word 1 GREATEST_PLACE k
  pub first_is : IsNumber first_word 0 GREATEST_PLACE p
  pub second_is : IsNumber second_word 0 GREATEST_PLACE q

-- `move FILE K J`
pub record NamesMove (words : List (List ℕ)) (k j : ℕ) : Type 0 where
  pub file : List ℕ
  pub some : file ≢ []
  pub section_word : List ℕ
  pub place_word : List ℕ
  pub words_are : words ≡ codes "move" ∷ file ∷ section_word ∷ place_word ∷ []
  pub section_is : IsNumber section_word 1 GREATEST_PLACE k
  pub place_is : IsNumber place_word 1 GREATEST_PLACE j

-- a word that is one line: it is not empty, has at most so many bytes, and no LF and no CR
pub record IsLineWord (most : ℕ) (word : List ℕ) : Type 0 where
  pub some : word ≢ []
  pub short : length word ≤ most
  pub one_line : has_line_end word ≡ false

-- `retitle FILE K TITLE`
pub record NamesRetitle (words : List (List ℕ)) (k : ℕ) : Type 0 where
  pub file : List ℕ
  pub some : file ≢ []
  pub section_word : List ℕ
  pub title : List ℕ
  pub words_are : words ≡ codes "retitle" ∷ file ∷ section_word ∷ title ∷ []
  pub section_is : IsNumber section_word 1 GREATEST_PLACE k
  pub title_is : IsLineWord LONGEST_TITLE title

-- `comment FILE K P N TEXT`
pub record NamesComment (words : List (List ℕ)) (k p n : ℕ) : Type 0 where
  pub file : List ℕ
  pub some : file ≢ []
  pub section_word : List ℕ
  pub first_word : List ℕ
  pub count_word : List ℕ
  pub text : List ℕ
  pub words_are : words ≡ codes "comment" ∷ file ∷ section_word ∷ first_word ∷ count_word ∷ text ∷ []
  pub section_is : IsNumber section_word 1 GREATEST_PLACE k
  pub first_is : IsNumber first_word 0 GREATEST_PLACE p
  pub count_is : IsNumber count_word 1 GREATEST_PLACE n
  pub text_is : IsLineWord LONGEST_BODY text

-- `withdraw FILE C`
pub record NamesWithdraw (words : List (List ℕ)) (n : ℕ) : Type 0 where
  pub file : List ℕ
  pub some : file ≢ []
  pub number_word : List ℕ
  pub words_are : words ≡ codes "withdraw" ∷ file ∷ number_word ∷ []
  pub number_is : IsNumber number_word 1 GREATEST_REMARK n

-- `remark FILE PASSAGE TEXT`
pub record NamesRemark (words : List (List ℕ)) : Type 0 where
  pub file : List ℕ
  pub some : file ≢ []
  pub passage : List ℕ
  pub text : List ℕ
  pub words_are : words ≡ codes "remark" ∷ file ∷ passage ∷ text ∷ []
  pub passage_is : IsSpelled passage
  pub text_is : IsLineWord LONGEST_BODY text

-- a name, FILE and the name of a version
pub record NamesNamed (name : List ℕ) (words : List (List ℕ)) : Type 0 where
  pub file : List ℕ
  pub some : file ≢ []
  pub version : List ℕ
  pub words_are : words ≡ name ∷ file ∷ version ∷ []
  pub version_is : IsLineWord LONGEST_NAME version

-- a name, FILE and N
pub record NamesMoment (name : List ℕ) (words : List (List ℕ)) (n : ℕ) : Type 0 where
  pub file : List ℕ
  pub some : file ≢ []
  pub number_word : List ℕ
  pub words_are : words ≡ name ∷ file ∷ number_word ∷ []
  pub number_is : IsNumber number_word 0 GREATEST_MOMENT n

-- `revise FILE BASE N`
pub record NamesRevise (words : List (List ℕ)) (n : ℕ) : Type 0 where
  pub file : List ℕ
  pub some : file ≢ []
  pub base : List ℕ
  pub some_base : base ≢ []
  pub number_word : List ℕ
  pub words_are : words ≡ codes "revise" ∷ file ∷ base ∷ number_word ∷ []
  pub number_is : IsNumber number_word 0 GREATEST_MOMENT n

-- the words ask for the command
abbrev pub Names : List (List ℕ) → Command → Type 0
Names words (Show hold) = ((words ≡ codes "show" ∷ []) × (hold ≡ USUAL_HOLD)) ⊎ NamesShow words hold
Names words (New replica hold) = NamesNew words replica hold
Names words Edit = NamesFile (codes "edit") words
Names words Print = NamesFile (codes "print") words
Names words Take = NamesFile (codes "take") words
Names words Send = NamesFile (codes "send") words
Names words Merge = NamesTwo (codes "merge") words
Names words (Relay port sessions) = NamesRelay words port sessions
Names words (Sync port cursor) = NamesSync words port cursor
Names words (Bulk seed count) = NamesBulk words seed count
Names words (Why k p q) = NamesWhy words k p q
Names words Check = NamesFile (codes "check") words
Names words (Move k j) = NamesMove words k j
Names words (Retitle k) = NamesRetitle words k
Names words Arrange = NamesFile (codes "arrange") words
Names words Authors = NamesFile (codes "authors") words
Names words (Changes n) = NamesMoment (codes "changes") words n
Names words (Past n) = NamesMoment (codes "past") words n
Names words Moments = NamesFile (codes "moments") words
Names words Revise = NamesTwo (codes "revise") words
Names words (ReviseSince n) = NamesRevise words n
Names words ListCommand = NamesFile (codes "list") words
Names words (Comment k p n) = NamesComment words k p n
Names words Comments = NamesFile (codes "comments") words
Names words Remarks = NamesFile (codes "remarks") words
Names words (Withdraw n) = NamesWithdraw words n
Names words Remark = NamesRemark words
Names words Version = NamesNamed (codes "version") words
Names words Versions = NamesFile (codes "versions") words
Names words View = NamesNamed (codes "view") words
Names words About = words ≡ codes "about" ∷ []

-- the command that the words ask for: None, where they ask for none
pub record IsCommand (words : List (List ℕ)) (command : Option Command) : Type 0 where
  pub named : IfSome command (Names words)
  pub only : (other : Command) → Names words other → command ≡ Some other

-- the file that a command is about, and the other file that it reads: the words after its name
abbrev pub home_word : Command → List (List ℕ) → Option (List ℕ)
home_word (Show hold) words = None
home_word (Relay port sessions) words = None
home_word (Bulk seed count) words = None
home_word About words = None
home_word _ (name ∷ file ∷ more) = Some file
home_word _ words = None

-- the word that names the other file, where the command has one
abbrev pub guest_word : Command → List (List ℕ) → Option (List ℕ)
guest_word Merge (name ∷ file ∷ other ∷ more) = Some other
guest_word Revise (name ∷ file ∷ base ∷ more) = Some base
guest_word (ReviseSince n) (name ∷ file ∷ base ∷ more) = Some base
guest_word _ words = None

-- the last word: the title, the comment or the name, where the command has one
abbrev pub last_word : List (List ℕ) → List ℕ
last_word words = elim (slice_get words (length words - 1)) [ None ↦ [] | Some word ↦ word ]

-- the third word: the passage, where the command has one
abbrev pub third_word : List (List ℕ) → List ℕ
third_word words = elim (slice_get words 2) [ None ↦ [] | Some word ↦ word ]

-- what the file that a command is about is opened for: to be made, to be read and written, or to be read alone
abbrev pub opening_for : Command → Opening
opening_for (New replica hold) = Creating
opening_for Edit = Writing
opening_for Take = Writing
opening_for Merge = Writing
opening_for Revise = Writing
opening_for (ReviseSince n) = Writing
opening_for (Sync port cursor) = Writing
opening_for (Move k j) = Writing
opening_for (Retitle k) = Writing
opening_for (Comment k p n) = Writing
opening_for (Withdraw n) = Writing
opening_for Remark = Writing
opening_for Version = Writing
opening_for _ = Reading

-- these are the files of the command that the words ask for: none, where they ask for none
pub record HasFiles (words : List (List ℕ)) (home guest : Option (List ℕ)) : Type 0 where
  pub of_command : (command : Command) → Names words command → (home ≡ home_word command words) × (guest ≡ guest_word command words)
  pub of_none : ((command : Command) → Names words command → ⊥) → (home ≡ None) × (guest ≡ None)
