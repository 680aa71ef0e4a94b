-- `numbered` meets its contract: the word, the digits and the tail are there, or one of them is missing.
use mathlib.Core.Path.{refl}
use Rattle.hoa_files.proofs.Starting.{stripped, not_stripped, stripped_from, not_stripped_from}
use Rattle.hoa_files.proofs.Numerals.{digit_first, no_word, no_tail, line_found}
use Rattle.hoa_files.proofs.parts.numbered.Goals as goal

pub returns-in_err-number : goal.returns-in_err-number
returns-in_err-number c = rw c.from_residual.ensures (no_word _ _ _ c.requires.0 c.requires.1 (not_stripped _ _ _ c.strip_prefix.ensures.cases c.in_err-number.was))

pub returns-in_err-strip_prefix : goal.returns-in_err-strip_prefix
returns-in_err-strip_prefix c =
    let w = stripped _ _ _ _ c.strip_prefix.ensures.cases c.in_ok-number.was in
    rw c.from_residual-in_err-strip_prefix.ensures
    (no_tail _ _ _ c.requires.0 c.requires.1 _ w c.count_digits.ensures _ c.in_ok-count.was (not_stripped_from c.in_ok-number.number.now c.in_ok-count.count _ _ c.strip_prefix-2.ensures.cases c.in_err-strip_prefix.was))

pub number_of-requires : goal.number_of-requires
number_of-requires c = digit_first _ _ c.count_digits.ensures c.in_ok-count.was

pub returns : goal.returns
returns c =
    let w = stripped _ _ _ _ c.strip_prefix.ensures.cases c.in_ok-number.was in
    let t = stripped_from c.in_ok-number.number.now c.in_ok-count.count _ _ _ c.strip_prefix-2.ensures.cases c.in_ok-strip_prefix.was in
    line_found _ _ _ c.requires.0 c.requires.1 _ w c.count_digits.ensures _ c.in_ok-count.was _ t _ refl c.number_of.ensures
