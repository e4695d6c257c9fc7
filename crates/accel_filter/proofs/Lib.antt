mod BitLemmas
mod ExpiryLemmas
mod MarksLemmas
mod WordLemmas
