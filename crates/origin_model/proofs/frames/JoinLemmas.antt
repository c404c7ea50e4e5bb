-- A stream after another one is read after it.
use Rattle.origin_model.proofs.Words.{All-append, List, ap, append-nil, append_assoc, arith, flat_map, length, length-append, sym, ℕ, ◌++◌, ◌+◌, ◌∙◌, ◌≡◌}
use Rattle.std.proofs.lemmas.Grind.{flat_map-append}
use Rattle.origin_model.specs.declared.grammar.Grammar.{Grammar}
use Rattle.origin_model.specs.frames.Frames.{BadFrame, CutShort, End, EndsSo, Framed, IsFrame, Whole}
use Rattle.origin_model.specs.frames.Joins.{StreamsJoin, end_further}

-- what ends a stream ends it further on
ends_further : (grammar : Grammar) (rest : List ℕ) (n m all : ℕ) (end : End) → all ≡ n + m → EndsSo grammar rest m end → EndsSo grammar rest all (end_further n end)
ends_further grammar rest n m all Whole e ends = ends
ends_further grammar rest n m all (CutShort k) e ends = (omega (arith, e, ends.0), ends.1, ends.2)
ends_further grammar rest n m all (BadFrame k) e ends = (omega (arith, e, ends.0), ends.1)

pub streams_join : StreamsJoin
streams_join grammar first second ops more end one two =
    let bytes : List Framed → List ℕ = flat_map (λ framed. framed.bytes) in
    let all : List Framed = one.found ++ two.found in
    let both : bytes all ≡ bytes one.found ++ bytes two.found = flat_map-append (λ (f : Framed). f.bytes) one.found two.found in
    let whole : first ≡ bytes one.found = one.split ∙ ap (λ l. bytes one.found ++ l) one.ends ∙ append-nil (bytes one.found) in
    record {
      found = all;
      are_frames = All-append (IsFrame grammar) one.found two.found one.are_frames two.are_frames;
      ops_are = (λ i. one.ops_are i ++ two.ops_are i) ∙ sym (flat_map-append (λ (f : Framed). f.ops) one.found two.found);
      rest = two.rest;
      split = (λ i. whole i ++ two.split i) ∙ sym (append_assoc (bytes one.found) (bytes two.found) two.rest) ∙ ap (λ l. l ++ two.rest) (sym both);
      ends = ends_further grammar two.rest (length first) (length (bytes two.found)) (length (bytes all)) end
          (ap length both ∙ length-append (bytes one.found) (bytes two.found) ∙ ap (λ n. n + length (bytes two.found)) (ap length (sym whole))) two.ends;
    }
