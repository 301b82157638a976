mod NameLaws
mod FormalLaws
mod StandLaws
mod MeaningLaws
