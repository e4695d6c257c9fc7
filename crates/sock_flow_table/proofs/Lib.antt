mod GenerationLemmas
mod NotesLemmas
