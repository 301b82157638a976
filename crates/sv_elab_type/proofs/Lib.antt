mod DimensionLaws
mod ItemLaws
mod MeaningLaws
