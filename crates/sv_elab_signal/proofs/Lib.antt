mod SignalLaws
