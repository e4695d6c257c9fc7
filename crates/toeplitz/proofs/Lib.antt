mod Numbers
mod Windows
mod BytesLemmas
