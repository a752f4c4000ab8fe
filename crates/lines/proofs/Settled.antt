-- The contracts settle the calls: two results that one of them allows are the same.
use Prim.Native.Nat.{ℕ}
use mathlib.Core.Path.{◌≡◌}
use mathlib.Core.List.{List}
use Rattle.std.specs.Prelude.{Option}
use Rattle.graphs.proofs.Settled.{settled}
use Rattle.lines.specs.declared.kinds.Kind.{Kind}
use Rattle.lines.specs.declared.StateLine.{StateLine}
use Rattle.lines.specs.declared.TransitionLine.{TransitionLine}
use Rattle.lines.specs.Bytes.{kind_of, kind_table}
use Rattle.lines.specs.Found.{state_found, transition_found}

pub kind_settled : (byte : ℕ) (r r' : Kind) → r ≡ kind_of byte → r' ≡ kind_of byte → r ≡ r'
kind_settled byte r r' = settled

pub kind_table_settled : (r r' : List Kind) → r ≡ kind_table → r' ≡ kind_table → r ≡ r'
kind_table_settled r r' = settled

pub state_line_settled : (at : ℕ) (left : List ℕ) (r r' : Option StateLine) → r ≡ state_found at left → r' ≡ state_found at left → r ≡ r'
state_line_settled at left r r' = settled

pub transition_line_settled : (at : ℕ) (left : List ℕ) (r r' : Option TransitionLine) → r ≡ transition_found at left → r' ≡ transition_found at left → r ≡ r'
transition_line_settled at left r r' = settled
