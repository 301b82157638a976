mod FormatLaws
mod PrintLaws
mod TextLaws
