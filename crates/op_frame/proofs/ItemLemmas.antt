-- Equal bytes begin with one frame of a grammar.
use Rattle.std.proofs.Common.{◌≡◌, ℕ, List, ◌++◌, drop, ap, sym, ◌∙◌}
use Rattle.std.specs.Prelude.{Option}
use Rattle.fugue_ids.specs.Identifiers.{Identifier}
use Rattle.fugue_ids.specs.declared.op.Op.{Op}
use Rattle.fugue_ids.specs.declared.op.Op.TheVariants.{Section, Text, Delete, Note}
use Rattle.origin_model.specs.declared.grammar.Grammar.{Grammar}
use Rattle.origin_model.specs.declared.grammar.Grammar.TheVariants.{Version1, Version2}
use Rattle.origin_model.specs.frames.Frames.{HasFrame, HasRunFrame, IsItem, IsOfVersion1, Item, Run, Single, Typed, frame, id_bytes, item_bytes, origin_bytes, run_frame}
use Rattle.origin_model.specs.frames.Frames.{text_bytes}
pub use Rattle.origin_model.proofs.SharedLemmas.{item_framed, item_is_framed}
use Rattle.op_frame.proofs.FormatLemmas.{Format, IsCode, code_join, identifier, item, join, origin, run_text}
use Rattle.op_frame.proofs.CodeLemmas.{identifier_code, origin_code, run_text_code}
use Rattle.op_frame.proofs.OperationLemmas.{operation_code, regroup5}

abbrev pub RunFields : Type 0
RunFields = Identifier × (Identifier × (Option Identifier × (Option Identifier × List ℕ)))

abbrev pub run_fields : Format RunFields
run_fields = join identifier (join identifier (join origin (join origin run_text)))

abbrev pub run_of : RunFields → Run
run_of v = record { id = v.0; section = v.1.0; left = v.1.1.0; right = v.1.1.1.0; text = v.1.1.1.1 }

abbrev pub fields_of : Run → RunFields
fields_of run = (run.id, (run.section, (run.left, (run.right, run.text))))

run_code : IsCode run_fields
run_code = code_join identifier (join identifier (join origin (join origin run_text))) identifier_code
    (code_join identifier (join origin (join origin run_text)) identifier_code
    (code_join origin (join origin run_text) origin_code (code_join origin run_text origin_code run_text_code)))

-- after the first byte
pub run_is : (run : Run) → drop 1 (run_frame run) ≡ run_fields.spelling (fields_of run)
run_is run = regroup5 (id_bytes run.id) (id_bytes run.section) (origin_bytes run.left) (origin_bytes run.right) (text_bytes run.text)

pub fields_valid : (run : Run) → HasRunFrame run → run_fields.valid (fields_of run)
fields_valid run has = (has.id, (has.section, (has.left, (has.right, has.text))))

run_once : (v w : Run) (r s : List ℕ) → HasRunFrame v → HasRunFrame w → run_frame v ++ r ≡ run_frame w ++ s → (v ≡ w) × (r ≡ s)
run_once v w r s p q same =
    let behind : drop 1 (run_frame v) ++ r ≡ drop 1 (run_frame w) ++ s = cc same in
    let both = run_code.once (fields_of v) (fields_of w) r s (fields_valid v p) (fields_valid w q)
    (ap (λ (a : List ℕ). a ++ r) (sym (run_is v)) ∙ behind ∙ ap (λ (a : List ℕ). a ++ s) (run_is w)) in
    (ap run_of both.0, both.1)

-- the first byte tells a run from an operation alone
not_both : (op : Op) (run : Run) (r s : List ℕ) → frame op ++ r ≡ run_frame run ++ s → ⊥
not_both (Section i l r t) run x y same = cc same
not_both (Text i k l r t) run x y same = cc same
not_both (Delete i) run x y same = cc same
not_both (Note i n c b) run x y same = cc same

-- an operation of which the grammar has a frame, and its frame
pub has_frame : (g : Grammar) (op : Op) → IsItem g (Single op) → HasFrame op
has_frame Version1 op is = is.0
has_frame Version2 op is = is

pub of_each_version : (g : Grammar) (op : Op) → HasFrame op → IsOfVersion1 op → IsItem g (Single op)
of_each_version Version1 op has known = (has, known)
of_each_version Version2 op has known = has

pub has_run_frame : (g : Grammar) (run : Run) → IsItem g (Typed run) → HasRunFrame run
has_run_frame Version1 run is = absurd is
has_run_frame Version2 run is = is

item_once : (g : Grammar) (v w : Item) (r s : List ℕ) → IsItem g v → IsItem g w → item_bytes v ++ r ≡ item_bytes w ++ s → (v ≡ w) × (r ≡ s)
item_once g (Single a) (Single b) r s p q same = let both = operation_code.once a b r s (has_frame g a p) (has_frame g b q) same in (ap Single both.0, both.1)
item_once g (Single a) (Typed b) r s p q same = absurd (not_both a b r s same)
item_once g (Typed a) (Single b) r s p q same = absurd (not_both b a s r (sym same))
item_once g (Typed a) (Typed b) r s p q same = let both = run_once a b r s (has_run_frame g a p) (has_run_frame g b q) same in (ap Typed both.0, both.1)

pub item_code : (g : Grammar) → IsCode (item g)
item_code g = record { once = item_once g }
