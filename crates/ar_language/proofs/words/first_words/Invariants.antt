use Rattle.std.proofs.Common.{◌≤◌, length, map}
use denote.Text.{Utf8}
use denote.Shadow.{shadow}
use Rattle.ar_language.proofs.Gathering.{Gathered, words_of}
use Rattle.ar_language.proofs.words.first_words.Given as goal

-- the words in front of the rest were taken
abbrev pub invariant-loop-rest : goal.invariant-loop-rest
invariant-loop-rest l =
    record {
      text : shadow (Utf8 l.rest);
      taken : Gathered (words_of l.line) (words_of l.rest) (map (λ word. word.now) l.words) l.count;
      shorter : length l.rest ≤ length l.line;
    }

-- the rest gets shorter
abbrev pub decreases-loop-rest : goal.decreases-loop-rest
decreases-loop-rest l = length l.rest
