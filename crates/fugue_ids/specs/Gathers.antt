-- Texts that are gathered, and go out in whole arrays.
use Rattle.std.specs.Prelude.{◌≡◌, ℕ, ◌*◌, List, [], ◌++◌, length, Result, Ok, OnOk, OnErr}
use Rattle.fugue_ids.specs.Outs.{OutView, WritesBytes}
use Rattle.fugue_ids.specs.declared.out.Failed.{Failed}
use Rattle.fugue_ids.specs.declared.limits.TheConstants.{BUFFER}

-- a front of the text went out, in whole arrays, and the rest waits
pub record Gathered (old new : OutView) (waiting text : List ℕ) : Type 0 where
  pub gone : List ℕ
  pub arrays : ℕ
  pub whole : length gone ≡ arrays * BUFFER
  pub text_is : gone ++ waiting ≡ text
  pub wrote : WritesBytes {E = Failed} {T = Unit {0}} old new (Ok tt) gone

-- one text more: it comes after what waited, or an error leaves a front of both written and nothing waiting
pub record GathersText {T : Type 0} (old new : OutView) (before after : List ℕ) (result : Result T Failed) (text : List ℕ) : Type 0 where
  pub ok : OnOk result (Gathered old new after (before ++ text))
  pub err : OnErr result (WritesBytes old new result (before ++ text))
  pub none : OnErr result (after ≡ [])
