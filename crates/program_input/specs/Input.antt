-- What reading an input leaves.
use Rattle.std.specs.Prelude.{ℕ, ◌≤◌, ◌<◌, List, length, Result, IfOk}
use Rattle.std.specs.declared.io.Error.{Error}

-- a count of bytes lies within the buffer
abbrev pub Held : Result ℕ Error → List ℕ → Type 0
Held r buffer = IfOk r (λ n. n ≤ length buffer)

-- the buffer holds more than so many bytes, so that longer input is seen
abbrev pub SeesLonger : ℕ → List ℕ → Type 0
SeesLonger longest buffer = longest < length buffer
