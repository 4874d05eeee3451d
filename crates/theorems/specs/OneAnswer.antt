-- Two answers allowed for one input are equal: the law, and what it says. The theorems, one for each form of an
-- `ensures`, stand in proofs/OneAnswer.antt.
pub mod Law
