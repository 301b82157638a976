mod LabelLaws
