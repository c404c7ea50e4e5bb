-- The last low cell of a part that passes a test, as the part shrinks round it.
use Rattle.std.proofs.Common.{◌≡◌, ◌+◌, ◌<◌, Bool, true, false, List, [], length, sym}
use Rattle.std.specs.Prelude.{Option, None, Some}
use Rattle.std.specs.List.{Contains}
use Rattle.fugue_ids.specs.Identifiers.{Identifier}
use Rattle.fugue_ids.specs.Keys.{Keyed, between}
use Rattle.fugue_ids.specs.Passing.{Falls, IsTest, last_passing}
use Rattle.fugue_ids.proofs.HalvesLemmas.{Halves, IsSearched, halves, search_before, search_begins, search_after, search_ends}
use Rattle.run_store.specs.Cells.{keyed_cells}
use Rattle.run_store.specs.Runs.{AreRuns, RunsView, cells_in}
use Rattle.run_store.specs.Standings.{IsFoundCell, IsStandingPart, low_cells}
use Rattle.run_store.specs.declared.standing.Found.{Found}
use Rattle.run_store.specs.declared.standing.Part.{Part}
use Rattle.run_store.proofs.FoundLemmas.{found-begin, found-end}
use Rattle.run_store.proofs.MiddleLemmas.{cells-apart}

module _ (r : RunsView) (post : Identifier → Bool → Type 0) (whole : Part) where
  abbrev es : List Keyed
  es = keyed_cells (cells_in r)

  -- the search in a part has come down to the rest of it
  pub record IsHalved (rest : Part) (seen : Option Identifier) : Type 0 where
    pub part : IsStandingPart r rest
    pub searched : (g : Identifier → Bool) → IsTest post g → Falls g (low_cells r whole) → IsSearched g (low_cells r whole) es rest.most rest.from rest.to seen

  -- at the beginning it is the whole part
  pub halving : IsStandingPart r whole → IsHalved whole None
  halving p = record { part = p; searched = λ g t f. search_begins g es whole.most whole.from whole.to f }

  module _ (rest : Part) (seen : Option Identifier) (is : IsHalved rest seen) where
    -- where no low cell is left, what was seen last is the answer
    pub halved-out : low_cells r rest ≡ [] → (g : Identifier → Bool) → IsTest post g → Falls g (low_cells r whole) → seen ≡ last_passing g (low_cells r whole)
    halved-out e g t f = sym (search_ends g es rest.most rest.from rest.to (low_cells r whole) seen (is.searched g t f) e)

    module _ (s : AreRuns r) (f : Found) (low : Contains (low_cells r rest) f.id) where
      at_low : Halves es rest.most rest.from rest.to f.id
      at_low = halves es rest.most rest.from rest.to f.id (cells-apart r s) is.part.from is.part.to low

      pub shorter-behind : length (between (Some f.id) rest.to es) < length (between rest.from rest.to es)
      shorter-behind = at_low.back_shorter

      pub shorter-before : length (between rest.from (Some f.id) es) < length (between rest.from rest.to es)
      shorter-before = at_low.front_shorter

      module _ (at : IsFoundCell r.rope f) where
        -- it goes on after a low cell that passes
        pub halved-behind : post f.id true → IsHalved (record rest { from = Some f.id; begin = record { place = f.at.place; offset = f.at.offset + 1 } }) (Some f.id)
        halved-behind passes = record {
          part = record { from = at_low.low; to = at_low.end_low; begin = found-begin r s f at; end = is.part.end };
          searched = λ g t falls.
              search_after g es rest.most rest.from rest.to (low_cells r whole) seen (is.searched g t falls) f.id at_low (sym (t f.id true passes));
        }

        -- and before one that fails
        pub halved-before : post f.id false → IsHalved (record rest { to = Some f.id; end = f.at }) seen
        halved-before fails = record {
          part = record { from = is.part.from; to = at_low.low_after; begin = is.part.begin; end = found-end r s f at };
          searched = λ g t falls.
              search_before g es rest.most rest.from rest.to (low_cells r whole) seen (is.searched g t falls) f.id at_low (sym (t f.id false fails));
        }
