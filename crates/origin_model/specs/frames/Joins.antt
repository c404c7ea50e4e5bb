-- A stream after another one.
use Rattle.std.specs.Prelude.{ℕ, ◌+◌, List, ◌++◌, length}
use Rattle.fugue_ids.specs.declared.op.Op.{Op}
use Rattle.origin_model.specs.declared.grammar.Grammar.{Grammar}
use Rattle.origin_model.specs.frames.Frames.{BadFrame, CutShort, End, Reads, Whole}

-- the same end, so many bytes further on
abbrev pub end_further : ℕ → End → End
end_further n Whole = Whole
end_further n (CutShort k) = CutShort (n + k)
end_further n (BadFrame k) = BadFrame (n + k)

-- a whole stream and another one after it read as the operations of the first and then those of the second, and end as the second does
abbrev pub StreamsJoin : Type 0
StreamsJoin =
    (grammar : Grammar) (first second : List ℕ) (ops more : List Op) (end : End) → Reads grammar first ops Whole
    → Reads grammar second more end
    → Reads grammar (first ++ second) (ops ++ more) (end_further (length first) end)
