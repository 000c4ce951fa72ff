-- What the demands of the order say: the definitions that their theorems are stated with, in the words of the documents, and for each demand what its theorem
-- gives. The theorems stand in proofs/, each in a file of its own.
pub mod Definitions
pub mod Wider
pub mod Conditions
pub mod TextConditions
pub mod Laws
pub mod Slack
pub mod Demand2
pub mod Demand3
pub mod Program
