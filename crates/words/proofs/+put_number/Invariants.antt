-- The measure of `words::put_number` is the number: a tenth of it is less. Assumes nothing.
use Rattle.words.proofs.+put_number.Given as goal

abbrev pub decreases-put_number : goal.decreases-put_number
decreases-put_number l = l.n
