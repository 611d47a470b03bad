pub mod ResultsLaws
